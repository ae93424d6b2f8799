-- The partitions of all keys together have the rows and the least key over of the emissions.
use Rattle.std.proofs.Common.{◌≡◌, ℕ, suc, ◌+◌, ◌<◌, ◌≤◌, ◌==◌, Bool, true, false, cond, if◌then◌else◌, T, List, [], ◌∷◌, ◌++◌, length, map}
use Rattle.std.proofs.Common.{filter_map, Option, Some, None, refl, sym, ap, subst, ◌∙◌, arith, IsPermutation}
use Rattle.std.specs.List.{IsDistinct, AllByRecursion}
use Rattle.std.specs.declared.cmp.Ordering.{Ordering}
use Rattle.std.specs.declared.cmp.Ordering.TheVariants.{Less, Equal, Greater}
use Rattle.std.specs.Ordering.{eq_by_cmp, is_eq, ordering_reverse}
use Rattle.std.specs.Cmp.{IsTotalOrder, tied_itself}
use Rattle.std.specs.FinMap.{IsAntisymmetric, find, is_sorted}
use Rattle.std.specs.FinMap.Entries.{below_all, put, find-put, is_sorted-put}
use Rattle.std.proofs.lemmas.List.Sorted.{IsPermutation-refl, IsPermutation-sym, IsPermutation-cons, IsPermutation-trans}
use Rattle.std.proofs.lemmas.Map.Keys.{IsDistinct-head, IsDistinct-tail, IsDistinct-cons, IsDistinct-from_sorted}
use Rattle.std.specs.List.Sorted.{IsStrictlySortedBy}
use Rattle.std.proofs.lemmas.List.Elements.{filter_map-append}
use Rattle.std.proofs.lemmas.Bool.Decides.{nat_tests}
use Rattle.mr_defs.specs.Emission.{Answer, Row}
use Rattle.mr_defs.specs.Commutative.{joined, joined_by}
use Rattle.mr_defs.specs.CommutativeLaws.{joined_by-append, joined_by-IsPermutation}
use Rattle.mr_defs.specs.Keyed.{lesser}
use Rattle.mr_defs.specs.Partitions.{concatenated}
use Rattle.mr_defs.proofs.Lesser.{lesser_commutative}
use Rattle.mr_defs.proofs.Shuffled.{IsPermutation-filter_map}
use Rattle.mr_container.proofs.Orders.{is_Equal, is_Less, both_first, both_second}
use Rattle.mr_combine.specs.Fold.{outcome}
use Rattle.std.specs.Prelude.{option_map, option_and_then}
use Rattle.std.specs.List.{cons_option}
use Rattle.mr_phase.specs.Reduced.{entry_row, over_key}
use Rattle.mr_phase.specs.Partition.{IsReducedPartition}

no_cell : {C : Type 0} (c : C) → None ≡ Some c → ⊥
no_cell c e = cc

module _ {K C : Type 0} {R : K → K → Ordering} (o : IsTotalOrder R) (one : IsAntisymmetric R) where
  -- in entries that ascend each is the one that its key finds
  found_behind : (x : K × C) (all part : List (K × C)) → T (below_all R x.0 part) → AllByRecursion (λ e. find R e.0 all ≡ Some e.1) part
      → AllByRecursion (λ e. find R e.0 (x ∷ all) ≡ Some e.1) part
  found_behind x all [] h f = tt
  found_behind x all (e ∷ es) h f = (
    ap (λ t. cond t (Some x.1) (find R e.0 all)) (ap is_eq (o.antisymm e.0 x.0 ∙ ap ordering_reverse (is_Less _ (both_first _ _ h))))
        ∙ f.0,
    found_behind x all es (both_second _ _ h) f.1,
  )

  found_each : (es : List (K × C)) → T (is_sorted R es) → AllByRecursion (λ e. find R e.0 es ≡ Some e.1) es
  found_each [] h = tt
  found_each (e ∷ es) h = (
    ap (λ r. cond (is_eq r) (Some e.1) (find R e.0 es)) (tied_itself o e.0),
    found_behind e es es (both_first _ _ h) (found_each es (both_second _ _ h)),
  )

  -- entries put one by one into their places
  placed : List (K × C) → List (K × C)
  placed [] = []
  placed (e ∷ es) = put R e.0 e.1 (placed es)

  placed_sorted : (es : List (K × C)) → T (is_sorted R (placed es))
  unfolding placed
  placed_sorted [] = tt
  placed_sorted (e ∷ es) = is_sorted-put R o e.0 e.1 (placed es) (placed_sorted es)

  placed_found : (q : K) (es : List (K × C)) → find R q (placed es) ≡ find R q es
  unfolding placed
  placed_found q [] = refl
  placed_found q (e ∷ es) = find-put R o q e.0 e.1 (placed es) ∙ ap (cond (eq_by_cmp R q e.0) (Some e.1)) (placed_found q es)

  two_first : (x y : K × C) (t : List (K × C)) → IsPermutation (x ∷ y ∷ t) (y ∷ x ∷ t)
  two_first x y t = record { moves = (0, 1) ∷ []; below = (omega arith, omega arith, tt); is = refl }

  put_same : (k : K) (c : C) (es : List (K × C)) → find R k es ≡ None → IsPermutation ((k, c) ∷ es) (put R k c es)
  put_same k c [] h = IsPermutation-refl ((k, c) ∷ [])
  put_same k c (e ∷ es) h = elim (R k e.0) as (λ r. R k e.0 ≡ r → IsPermutation ((k, c) ∷ e ∷ es) (put R k c (e ∷ es))) [
    | Less ↦ λ g. rw g (IsPermutation-refl ((k, c) ∷ e ∷ es))
    | Equal ↦ λ g. absurd (no_cell e.1 (sym (sym (ap (λ r. cond (is_eq r) (Some e.1) (find R k es)) g) ∙ h)))
    | Greater ↦ λ g. rw g (IsPermutation-trans ((k, c) ∷ e ∷ es) (e ∷ (k, c) ∷ es) (e ∷ put R k c es) (two_first (k, c) e es)
        (IsPermutation-cons e ((k, c) ∷ es) (put R k c es)
        (put_same k c es (sym (ap (λ r. cond (is_eq r) (Some e.1) (find R k es)) g) ∙ h))))
  ] refl

  absent : (q : K) (es : List (K × C)) → AllByRecursion (λ y. eq_by_cmp R q y ≡ false) (map (λ e. e.0) es) → find R q es ≡ None
  absent q [] differ = refl
  absent q (e ∷ es) differ = ap (λ t. cond t (Some e.1) (find R q es)) differ.0 ∙ absent q es differ.1

  placed_same : (es : List (K × C)) → IsDistinct (eq_by_cmp R) (map (λ e. e.0) es) → IsPermutation es (placed es)
  unfolding placed
  placed_same [] d = IsPermutation-refl []
  placed_same (e ∷ es) d =
      IsPermutation-trans (e ∷ es) (e ∷ placed es) (put R e.0 e.1 (placed es))
      (IsPermutation-cons e es (placed es) (placed_same es (IsDistinct-tail _ _ _ d)))
      (put_same e.0 e.1 (placed es) (placed_found e.0 es ∙ absent e.0 es (IsDistinct-head _ _ _ d)))

  -- the first of two lists that has the key
  find_append_some : (q : K) (c : C) (xs ys : List (K × C)) → find R q xs ≡ Some c → find R q (xs ++ ys) ≡ Some c
  find_append_some q c [] ys h = absurd (no_cell c h)
  find_append_some q c (x ∷ xs) ys h =
      elim (eq_by_cmp R q x.0) as (λ t. eq_by_cmp R q x.0 ≡ t → cond (eq_by_cmp R q x.0) (Some x.1) (find R q (xs ++ ys)) ≡ Some c) [
        | true ↦ λ e. ap (λ t. cond t (Some x.1) (find R q (xs ++ ys))) e ∙ sym (ap (λ t. cond t (Some x.1) (find R q xs)) e) ∙ h
        | false ↦ λ e. ap (λ t. cond t (Some x.1) (find R q (xs ++ ys))) e
            ∙ find_append_some q c xs ys (sym (ap (λ t. cond t (Some x.1) (find R q xs)) e) ∙ h)
      ] refl

  find_append_none : (q : K) (xs ys : List (K × C)) → find R q xs ≡ None → find R q (xs ++ ys) ≡ find R q ys
  find_append_none q [] ys h = refl
  find_append_none q (x ∷ xs) ys h =
      elim (eq_by_cmp R q x.0) as (λ t. eq_by_cmp R q x.0 ≡ t → cond (eq_by_cmp R q x.0) (Some x.1) (find R q (xs ++ ys)) ≡ find R q ys) [
        | true ↦ λ e. absurd (no_cell x.1 (sym (sym (ap (λ t. cond t (Some x.1) (find R q xs)) e) ∙ h)))
        | false ↦ λ e. ap (λ t. cond t (Some x.1) (find R q (xs ++ ys))) e
            ∙ find_append_none q xs ys (sym (ap (λ t. cond t (Some x.1) (find R q xs)) e) ∙ h)
      ] refl

  module _ (whole : K → Option C) (part_of : K → ℕ) (over : C → Bool) (answer : C → Answer) where
    abbrev Done : Type 0
    Done = List (Row K) × Option K

    -- the partitions from one number on
    abbrev pub AreParts : ℕ → List Done → Type 0
    AreParts from [] = Unit {0}
    AreParts from (p ∷ ps) = IsReducedPartition R whole part_of over answer from p.0 p.1 × AreParts (suc from) ps

    entries_of : (from : ℕ) (ps : List Done) → AreParts from ps → List (K × C)
    entries_of from [] h = []
    entries_of from (p ∷ ps) h = h.0.entries ++ entries_of (suc from) ps h.1

    only_part : (b : Bool) (x : Option C) (c : C) → (if b then x else None) ≡ Some c → b ≡ true
    only_part true x c e = refl
    only_part false x c e = absurd (no_cell c e)

    is_part : (from : ℕ) (entries some : List (K × C)) → ((k : K) → find R k entries ≡ (if part_of k == from then whole k else None))
        → AllByRecursion (λ e. find R e.0 entries ≡ Some e.1) some → AllByRecursion (λ e. part_of e.0 ≡ from) some
    is_part from entries [] found each = tt
    is_part from entries (e ∷ es) found each =
        let b = only_part (part_of e.0 == from) (whole e.0) e.1 (sym (found e.0) ∙ each.0) in
        (grind (arith, nat_tests, b), is_part from entries es found each.1)

    parts_append : (from : ℕ) (xs ys : List (K × C)) → AllByRecursion (λ e. part_of e.0 ≡ from) xs
        → AllByRecursion (λ e. suc from ≤ part_of e.0) ys → AllByRecursion (λ e. from ≤ part_of e.0) (xs ++ ys)
    parts_append from [] [] h k = tt
    parts_append from [] (y ∷ ys) h k = (omega (arith, k.0), parts_append from [] ys h k.1)
    parts_append from (x ∷ xs) ys h k = (omega (arith, h.0), parts_append from xs ys h.1 k)

    -- no partition has a key of an earlier one
    later : (from : ℕ) (ps : List Done) (h : AreParts from ps) → AllByRecursion (λ e. from ≤ part_of e.0) (entries_of from ps h)
    unfolding entries_of
    later from [] h = tt
    later from (p ∷ ps) h = parts_append from h.0.entries (entries_of (suc from) ps h.1)
        (is_part from h.0.entries h.0.entries h.0.found (found_each h.0.entries h.0.sorted)) (later (suc from) ps h.1)

    apart : (x : K) (from : ℕ) → part_of x ≡ from → (ys : List (K × C)) → AllByRecursion (λ e. suc from ≤ part_of e.0) ys
        → AllByRecursion (λ y. eq_by_cmp R x y ≡ false) (map (λ e. e.0) ys)
    apart x from is [] h = tt
    apart x from is (y ∷ ys) h = (by (eq_by_cmp R x y.0) refl, apart x from is ys h.1)
      where
        by : (t : Bool) → eq_by_cmp R x y.0 ≡ t → eq_by_cmp R x y.0 ≡ false
        by false e = e
        by true e = let same = ap part_of (one x y.0 (is_Equal (R x y.0) e)) in absurd (omega (arith, same, is, h.0))

    none_tied : (x : K) (xs ys : List (K × C)) → AllByRecursion (λ y. eq_by_cmp R x y ≡ false) (map (λ e. e.0) xs)
        → AllByRecursion (λ y. eq_by_cmp R x y ≡ false) (map (λ e. e.0) ys)
        → AllByRecursion (λ y. eq_by_cmp R x y ≡ false) (map (λ e. e.0) (xs ++ ys))
    none_tied x [] ys h k = k
    none_tied x (e ∷ xs) ys h k = (h.0, none_tied x xs ys h.1 k)

    below_tied : (x : K) (es : List (K × C)) → T (below_all R x es) → AllByRecursion (λ y. eq_by_cmp R x y ≡ false) (map (λ e. e.0) es)
    below_tied x [] h = tt
    below_tied x (e ∷ es) h = (ap is_eq (is_Less (R x e.0) (both_first _ _ h)), below_tied x es (both_second _ _ h))

    distinct_append : (from : ℕ) (xs ys : List (K × C)) → T (is_sorted R xs) → AllByRecursion (λ e. part_of e.0 ≡ from) xs
        → AllByRecursion (λ e. suc from ≤ part_of e.0) ys → IsDistinct (eq_by_cmp R) (map (λ e. e.0) ys)
        → IsDistinct (eq_by_cmp R) (map (λ e. e.0) (xs ++ ys))
    distinct_append from [] ys s h k d = d
    distinct_append from (x ∷ xs) ys s h k d =
        IsDistinct-cons (eq_by_cmp R) x.0 (map (λ e. e.0) (xs ++ ys))
        (none_tied x.0 xs ys (below_tied x.0 xs (both_first _ _ s)) (apart x.0 from h.0 ys k))
        (distinct_append from xs ys (both_second _ _ s) h.1 k d)

    strict_nil : IsStrictlySortedBy R []
    unfolding IsStrictlySortedBy
    strict_nil = tt

    no_tie : IsDistinct (eq_by_cmp R) []
    no_tie = IsDistinct-from_sorted R [] strict_nil

    distinct : (from : ℕ) (ps : List Done) (h : AreParts from ps) → IsDistinct (eq_by_cmp R) (map (λ e. e.0) (entries_of from ps h))
    unfolding entries_of
    distinct from [] h = no_tie
    distinct from (p ∷ ps) h = distinct_append from h.0.entries (entries_of (suc from) ps h.1) h.0.sorted
        (is_part from h.0.entries h.0.entries h.0.found (found_each h.0.entries h.0.sorted)) (later (suc from) ps h.1)
        (distinct (suc from) ps h.1)

    gone : (k : K) (from : ℕ) (es : List (K × C)) → part_of k < from → AllByRecursion (λ e. from ≤ part_of e.0) es → find R k es ≡ None
    gone k from [] h are = refl
    gone k from (e ∷ es) h are =
        elim (eq_by_cmp R k e.0) as (λ t. eq_by_cmp R k e.0 ≡ t → cond (eq_by_cmp R k e.0) (Some e.1) (find R k es) ≡ None) [
          | true ↦ λ q. let same = ap part_of (one k e.0 (is_Equal (R k e.0) q)) in absurd (omega (arith, same, h, are.0))
          | false ↦ λ q. ap (λ t. cond t (Some e.1) (find R k es)) q ∙ gone k from es h are.1
        ] refl

    -- a key of the first partition
    here : (k : K) (from : ℕ) (es rest : List (K × C)) (w : Option C) → whole k ≡ w → find R k es ≡ w → part_of k ≡ from
        → AllByRecursion (λ e. suc from ≤ part_of e.0) rest → find R k (es ++ rest) ≡ whole k
    here k from es rest (Some c) e f is are = find_append_some k c es rest f ∙ sym e
    here k from es rest None e f is are = find_append_none k es rest f ∙ gone k (suc from) rest (omega (arith, is)) are ∙ sym e

    found_in : (k : K) (from : ℕ) (ps : List Done) (h : AreParts from ps) → from ≤ part_of k → part_of k < from + length ps
        → find R k (entries_of from ps h) ≡ whole k
    unfolding entries_of
    found_in k from [] h low high = absurd (omega (arith, low, high))
    found_in k from (p ∷ ps) h low high =
        elim (part_of k == from) as (λ t. (part_of k == from) ≡ t → find R k (h.0.entries ++ entries_of (suc from) ps h.1) ≡ whole k) [
          | true ↦ λ e. here k from h.0.entries (entries_of (suc from) ps h.1) (whole k) refl
              (h.0.found k ∙ ap (λ t. if t then whole k else None) e) (grind (arith, nat_tests, e)) (later (suc from) ps h.1)
          | false ↦ λ e. find_append_none k h.0.entries (entries_of (suc from) ps h.1)
              (h.0.found k ∙ ap (λ t. if t then whole k else None) e)
              ∙ found_in k (suc from) ps h.1 (grind (arith, nat_tests, e, low)) (omega (arith, high))
        ] refl

    -- the rows of all partitions, and their least key over
    all_rows : (from : ℕ) (ps : List Done) (h : AreParts from ps)
        → concatenated (map (λ p. p.0) ps) ≡ filter_map (entry_row over answer) (entries_of from ps h)
    unfolding entries_of
    all_rows from [] h = refl
    all_rows from (p ∷ ps) h = ap (λ l. l ++ concatenated (map (λ p. p.0) ps)) h.0.rows_are
        ∙ ap (λ l. filter_map (entry_row over answer) h.0.entries ++ l) (all_rows (suc from) ps h.1)
        ∙ sym (filter_map-append (entry_row over answer) h.0.entries (entries_of (suc from) ps h.1))

    all_over : (from : ℕ) (ps : List Done) (h : AreParts from ps)
        → joined_by (lesser R) (λ p. p.1) ps ≡ joined_by (lesser R) (over_key over) (entries_of from ps h)
    unfolding entries_of
    all_over from [] h = refl
    all_over from (p ∷ ps) h = ap (λ x. joined (lesser R) x (joined_by (lesser R) (λ p. p.1) ps)) h.0.over_is
        ∙ ap (joined (lesser R) (joined_by (lesser R) (over_key over) h.0.entries)) (all_over (suc from) ps h.1)
        ∙ sym (joined_by-append (lesser_commutative o one) (over_key over) h.0.entries (entries_of (suc from) ps h.1))

    row_step : (k : K) (e : K × C) (rows : List (Row K)) (es : List (K × C)) (t b : Bool) → eq_by_cmp R k e.0 ≡ t → over e.1 ≡ b
        → (t ≡ true → find R k es ≡ None) → find R k rows ≡ option_and_then (outcome over answer) (find R k es)
        → find R k (cons_option (option_map (λ a. (e.0, a)) (if b then None else Some (answer e.1))) rows)
        ≡ option_and_then (outcome over answer) (cond t (Some e.1) (find R k es))
    row_step k e rows es true true p q none so_far =
        so_far ∙ ap (option_and_then (outcome over answer)) (none refl) ∙ sym (ap (λ b. if b then None else Some (answer e.1)) q)
    row_step k e rows es true false p q none so_far =
        ap (λ t. cond t (Some (answer e.1)) (find R k rows)) p ∙ sym (ap (λ b. if b then None else Some (answer e.1)) q)
    row_step k e rows es false true p q none so_far = so_far
    row_step k e rows es false false p q none so_far = ap (λ t. cond t (Some (answer e.1)) (find R k rows)) p ∙ so_far

    -- the row of a key is what its cell comes to
    find_rows : (k : K) (es : List (K × C)) → IsDistinct (eq_by_cmp R) (map (λ e. e.0) es)
        → find R k (filter_map (entry_row over answer) es) ≡ option_and_then (outcome over answer) (find R k es)
    find_rows k [] d = refl
    find_rows k (e ∷ es) d = row_step k e (filter_map (entry_row over answer) es) es (eq_by_cmp R k e.0) (over e.1) refl refl
        (λ h. absent k es (subst (λ x. AllByRecursion (λ y. eq_by_cmp R x y ≡ false) (map (λ e. e.0) es))
        (sym (one k e.0 (is_Equal (R k e.0) h))) (IsDistinct-head _ _ _ d)))
        (find_rows k es (IsDistinct-tail _ _ _ d))

    -- the row of a key in the lists of all partitions is what its merged cell comes to
    pub cells : (ps : List Done) → AreParts 0 ps → ((k : K) → part_of k < length ps) → (k : K)
        → find R k (concatenated (map (λ p. p.0) ps)) ≡ option_and_then (outcome over answer) (whole k)
    cells ps h below k =
        ap (find R k) (all_rows 0 ps h)
        ∙ find_rows k (entries_of 0 ps h) (distinct 0 ps h)
        ∙ ap (option_and_then (outcome over answer)) (found_in k 0 ps h (omega arith) (omega (arith, below k)))

    -- the keys of rows differ where those of the entries do
    no_row : (x : K) (es : List (K × C)) → AllByRecursion (λ y. eq_by_cmp R x y ≡ false) (map (λ e. e.0) es)
        → AllByRecursion (λ y. eq_by_cmp R x y ≡ false) (map (λ r. r.0) (filter_map (entry_row over answer) es))
    no_row x [] h = tt
    no_row x (e ∷ es) h = elim (over e.1) as (λ b. AllByRecursion (λ y. eq_by_cmp R x y ≡ false)
        (map (λ r. r.0)
        (cons_option (option_map (λ a. (e.0, a)) (if b then None else Some (answer e.1))) (filter_map (entry_row over answer) es)))) [
          | true ↦ no_row x es h.1
          | false ↦ (h.0, no_row x es h.1)
        ]

    keys_differ : (es : List (K × C)) → IsDistinct (eq_by_cmp R) (map (λ e. e.0) es)
        → IsDistinct (eq_by_cmp R) (map (λ r. r.0) (filter_map (entry_row over answer) es))
    keys_differ [] d = d
    keys_differ (e ∷ es) d = elim (over e.1) as (λ b. IsDistinct (eq_by_cmp R)
        (map (λ r. r.0)
        (cons_option (option_map (λ a. (e.0, a)) (if b then None else Some (answer e.1))) (filter_map (entry_row over answer) es)))) [
          | true ↦ keys_differ es (IsDistinct-tail _ _ _ d)
          | false ↦ IsDistinct-cons (eq_by_cmp R) e.0 (map (λ r. r.0) (filter_map (entry_row over answer) es))
              (no_row e.0 es (IsDistinct-head _ _ _ d)) (keys_differ es (IsDistinct-tail _ _ _ d))
        ]

    pub rows_differ : (ps : List Done) → AreParts 0 ps → IsDistinct (eq_by_cmp R) (map (λ r. r.0) (concatenated (map (λ p. p.0) ps)))
    rows_differ ps h =
        subst (λ l. IsDistinct (eq_by_cmp R) (map (λ r. r.0) l)) (sym (all_rows 0 ps h)) (keys_differ (entries_of 0 ps h) (distinct 0 ps h))

    -- entries of all keys, ascending, whose rows are those of all partitions and whose least key over is theirs
    pub record Whole (ps : List Done) : Type 0 where
      pub entries : List (K × C)
      pub sorted : T (is_sorted R entries)
      pub found : (k : K) → find R k entries ≡ whole k
      pub rows : IsPermutation (filter_map (entry_row over answer) entries) (concatenated (map (λ p. p.0) ps))
      pub over_is : joined_by (lesser R) (λ p. p.1) ps ≡ joined_by (lesser R) (over_key over) entries

    pub together : (ps : List Done) → AreParts 0 ps → ((k : K) → part_of k < length ps) → Whole ps
    together ps h below =
        let es = entries_of 0 ps h in
        let same = placed_same es (distinct 0 ps h) in
        record {
          entries = placed es;
          sorted = placed_sorted es;
          found = λ k. placed_found k es ∙ found_in k 0 ps h (omega arith) (omega (arith, below k));
          rows = subst (λ l. IsPermutation (filter_map (entry_row over answer) (placed es)) l) (sym (all_rows 0 ps h))
              (IsPermutation-sym (filter_map (entry_row over answer) es) (filter_map (entry_row over answer) (placed es))
              (IsPermutation-filter_map (entry_row over answer) es (placed es) same));
          over_is = all_over 0 ps h ∙ sym (joined_by-IsPermutation (lesser_commutative o one) (over_key over) es (placed es) same);
        }
