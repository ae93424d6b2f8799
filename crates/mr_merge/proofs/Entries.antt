-- Lists whose entries are taken over, from the last list on.
use Rattle.std.proofs.Common.{◌≡◌, List, [], ◌∷◌, ◌++◌, sym, ap, subst, ◌∙◌, append_assoc, append-nil}
use Rattle.std.specs.Prelude.{All}
use Rattle.std.specs.List.Sorted.{IsPermutation}
use Rattle.std.specs.declared.vec.Vec.{Vec}
use Rattle.std.proofs.lemmas.Grind.{flat_map-append}
use Rattle.std.proofs.lemmas.List.Elements.{All-head, All-tail, All-nil, All-cons}
use Rattle.std.proofs.lemmas.List.Sorted.{IsPermutation-trans, IsPermutation-append_right, IsPermutation-append_comm}
use Rattle.mr_defs.specs.Partitions.{concatenated}
use Rattle.mr_merge.specs.Lists.{rows_of}

-- the rows of two lists of lists
pub rows_append : {X Z : Type 0} (xs ys : List (Vec X Z)) → rows_of (xs ++ ys) ≡ rows_of xs ++ rows_of ys
rows_append xs ys = flat_map-append (λ l. l.items) xs ys

pub all_front : {X : Type 0} (P : X → Type 0) (xs ys : List X) → All P (xs ++ ys) → All P xs
all_front P [] ys h = All-nil P
all_front P (x ∷ xs) ys h = All-cons P x xs (All-head P x (xs ++ ys) h) (all_front P xs ys (All-tail P x (xs ++ ys) h))

pub all_last : {X : Type 0} (P : X → Type 0) (xs : List X) (y : X) → All P (xs ++ y ∷ []) → P y
all_last P [] y h = All-head P y [] h
all_last P (x ∷ xs) y h = all_last P xs y (All-tail P x (xs ++ y ∷ []) h)

pub taken_over : {X Z : Type 0} (whole : List X) (lists left : List (List X)) (list : List X) (entries after : List (Vec X Z))
    (run : Vec X Z) → lists ≡ left ++ list ∷ [] → run.items ≡ list → after ≡ entries ++ run ∷ []
    → IsPermutation whole (concatenated lists ++ rows_of entries) → IsPermutation whole (concatenated left ++ rows_of after)
taken_over whole lists left list entries after run e is put p =
    let parts : concatenated lists ++ rows_of entries ≡ concatenated left ++ (list ++ rows_of entries) =
    ap (λ l. concatenated l ++ rows_of entries) e ∙ ap (λ l. l ++ rows_of entries)
    (flat_map-append (λ l. l) left (list ∷ []) ∙ ap (λ l. concatenated left ++ l) (append-nil list)) ∙ append_assoc
    (concatenated left) list (rows_of entries) in
    let rows : rows_of after ≡ rows_of entries ++ list = ap rows_of put ∙ rows_append entries (run ∷ []) ∙ ap (λ l. rows_of entries ++ l)
    (append-nil run.items ∙ is) in
    subst (λ l. IsPermutation whole (concatenated left ++ l)) (sym rows)
    (IsPermutation-trans whole (concatenated left ++ (list ++ rows_of entries)) (concatenated left ++ (rows_of entries ++ list))
    (subst (IsPermutation whole) parts p)
    (IsPermutation-append_right (concatenated left) (list ++ rows_of entries) (rows_of entries ++ list)
    (IsPermutation-append_comm list (rows_of entries))))
