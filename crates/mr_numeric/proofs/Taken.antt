-- The first elements of a list, one after the other.
use Rattle.std.proofs.Common.{◌≡◌, ◌<◌, ◌+◌, ℕ, Bool, true, false, cond, List, [], ◌∷◌, ◌++◌, length, get_or, take, Some, sym, ap, subst}
use Rattle.std.proofs.Common.{◌∙◌}
use Rattle.std.specs.Prelude.{flat_map, find}
use Rattle.std.specs.List.{All}
use Rattle.std.proofs.lemmas.List.{take_more, flat_map_more}
use Rattle.std.proofs.lemmas.List.Elements.{All-head, All-tail}

-- what each gives, put behind what there is
pub one_taken : {X E : Type 0} (f : X → List E) (es : List E) (xs : List X) (i : ℕ) (d : X) → i < length xs
    → (es ++ flat_map f (take i xs)) ++ f (get_or xs i d) ≡ es ++ flat_map f (take (i + 1) xs)
one_taken f es xs i d below = flat_map_more f es (take i xs) (get_or xs i d) ∙ ap (λ l. es ++ flat_map f l) (sym (take_more xs i d below))

-- what is found has what all have
pub found_has : {X : Type 0} (P : X → Type 0) (test : X → Bool) (xs : List X) (x : X) → All P xs → find test xs ≡ Some x → P x
found_has P test [] x all e = absurd (cc)
found_has P test (y ∷ ys) x all e = by (test y) (found_has P test ys x (All-tail P y ys all)) e
  where
    by : (b : Bool) → (find test ys ≡ Some x → P x) → cond b (Some y) (find test ys) ≡ Some x → P x
    by true rest k = let same : y ≡ x = cc in subst P same (All-head P y ys all)
    by false rest k = rest k
