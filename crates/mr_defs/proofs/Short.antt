-- A list of one value or none has no other order, and what all keys of a list do that no test holds.
use Rattle.std.proofs.Common.{◌≡◌, ℕ, zero, suc, ◌<◌, Bool, true, false, cond, List, [], ◌∷◌, length, Option, Some, None, refl, sym, ap}
use Rattle.std.proofs.Common.{subst, ◌∙◌, arith, filter, filter_map, swap, IsPermutation}
use Rattle.std.specs.Prelude.{nat_lt}
use Rattle.std.specs.List.{cons_option}
use Rattle.std.proofs.lemmas.Bool.{lt-ltb}
use Rattle.std.proofs.lemmas.List.Sorted.{IsPermutation-keeps}
use Rattle.mr_defs.specs.Commutative.{joined, joined_by}

module _ {X : Type 0} where
  swap_of_one : (x : X) (i j : ℕ) → i < 1 → j < 1 → swap (x ∷ []) i j ≡ x ∷ []
  swap_of_one x zero zero h k = refl
  swap_of_one x zero (suc j) h k = absurd (omega (arith, k))
  swap_of_one x (suc i) j h k = absurd (omega (arith, h))

  -- a list of one value or none is each of its permutations
  pub short : (xs ys : List X) → nat_lt 1 (length xs) ≡ false → IsPermutation xs ys → ys ≡ xs
  short [] ys few p = IsPermutation-keeps [] (λ l. l ≡ []) refl (λ l i j h k e. absurd (none l i h e)) ys p
    where
      none : (l : List X) (i : ℕ) → i < length l → l ≡ [] → ⊥
      none l i h e = let a : i < length {A = X} [] = subst (λ m. i < length m) e h in omega (arith, a)
  short (x ∷ []) ys few p =
      IsPermutation-keeps (x ∷ []) (λ l. l ≡ x ∷ []) refl
      (λ l i j h k e. ap (λ m. swap m i j) e ∙ swap_of_one x i j (subst (λ m. i < length m) e h) (subst (λ m. j < length m) e k)) ys p
  short (x ∷ y ∷ xs) ys few p = absurd (true_is_not (sym (lt-ltb 1 (length (x ∷ y ∷ xs)) (omega arith)) ∙ few))
    where
      true_is_not : true ≡ false → ⊥
      true_is_not q = cc

module _ {K Y : Type 0} (op : K → K → K) (test : K → Bool) (f g : K → Option Y) (same : (k : K) → test k ≡ false → f k ≡ g k) where
  some_joined : (o : Option K) (k : K) → joined op (Some k) o ≡ None → ⊥
  some_joined None k e = cc
  some_joined (Some q) k e = cc

  -- where a test passes over all keys of a list
  pub passed_over : (ks : List K) → joined_by op (λ k. Some k) (filter test ks) ≡ None → filter_map f ks ≡ filter_map g ks
  passed_over [] none = refl
  passed_over (k ∷ ks) none = by (test k) refl none (passed_over ks)
    where
      by : (t : Bool) → test k ≡ t → joined_by op (λ k. Some k) (cond t (k ∷ filter test ks) (filter test ks)) ≡ None
          → (joined_by op (λ k. Some k) (filter test ks) ≡ None → filter_map f ks ≡ filter_map g ks)
          → filter_map f (k ∷ ks) ≡ filter_map g (k ∷ ks)
      by true e none rest = absurd (some_joined (joined_by op (λ k. Some k) (filter test ks)) k none)
      by false e none rest = λ i. cons_option (same k e i) (rest none i)
