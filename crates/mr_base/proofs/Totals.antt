-- How a total changes with one view.
use Rattle.std.proofs.Common.{◌≡◌, ◌≢◌, ℕ, zero, suc, ◌+◌, ◌≤◌, List, [], ◌∷◌, ◌++◌, set, refl, sym, ap, arith, subst, ◌⊎◌, inl, inr}
use Rattle.std.proofs.Common.{⊎_elim}
use mathlib.Core.Option.{some, some-injective, some-ne-none}
use lib.ListN.{get_elem?}
use Rattle.mr_base.specs.Totals.{total, Each}

module _ {V : Type 0} where
  at_set : (l : List V) (i j : ℕ) (a b : V) → get_elem? (set l i a) j ≡ some b → ((j ≡ i) × (a ≡ b)) ⊎ ((j ≢ i) × (get_elem? l j ≡ some b))
  at_set [] i j a b e = absurd (some-ne-none b (sym e))
  at_set (x ∷ xs) zero zero a b e = inl (refl, some-injective a b e)
  at_set (x ∷ xs) zero (suc j) a b e = inr ((λ h. omega arith), e)
  at_set (x ∷ xs) (suc i) zero a b e = inr ((λ h. omega arith), e)
  at_set (x ∷ xs) (suc i) (suc j) a b e =
      ⊎_elim (λ t. inl (ap suc t.0, t.1)) (λ t. let n = t.0 in inr ((λ h. n (omega arith)), t.1)) (at_set xs i j a b e)

  at_snoc : (l : List V) (a b : V) (j : ℕ) → get_elem? (l ++ a ∷ []) j ≡ some b → (get_elem? l j ≡ some b) ⊎ (a ≡ b)
  at_snoc [] a b zero e = inr (some-injective a b e)
  at_snoc [] a b (suc j) e = absurd (some-ne-none b (sym e))
  at_snoc (x ∷ xs) a b zero e = inl e
  at_snoc (x ∷ xs) a b (suc j) e = at_snoc xs a b j e

  pub total_set : (f : V → ℕ) (views : List V) (i : ℕ) (v w : V) → get_elem? views i ≡ some v
      → total f (set views i w) + f v ≡ total f views + f w
  total_set f [] i v w e = absurd (some-ne-none v (sym e))
  total_set f (x ∷ xs) zero v w e = let s = ap f (some-injective x v e) in omega (arith, s)
  total_set f (x ∷ xs) (suc i) v w e = let s = total_set f xs i v w e in omega (arith, s)

  pub total_snoc : (f : V → ℕ) (views : List V) (w : V) → total f (views ++ w ∷ []) ≡ total f views + f w
  total_snoc f [] w = omega arith
  total_snoc f (x ∷ xs) w = let s = total_snoc f xs w in omega (arith, s)

  pub total_member : (f : V → ℕ) (views : List V) (i : ℕ) (v : V) → get_elem? views i ≡ some v → f v ≤ total f views
  total_member f [] i v e = absurd (some-ne-none v (sym e))
  total_member f (x ∷ xs) zero v e = let s = ap f (some-injective x v e) in omega (arith, s)
  total_member f (x ∷ xs) (suc i) v e = let s = total_member f xs i v e in omega (arith, s)

  pub total_le : (f g : V → ℕ) (views : List V) → Each (λ v. f v ≤ g v) views → total f views ≤ total g views
  total_le f g [] h = omega arith
  total_le f g (x ∷ xs) h = let a = h zero x refl in let b = total_le f g xs (λ i v e. h (suc i) v e) in omega (arith, a, b)

  -- where one view has all of g, and no view has any of f without some of g, that view has all of f
  pub total_whole : (f g : V → ℕ) (views : List V) (i : ℕ) (v : V) → get_elem? views i ≡ some v → total g views ≡ g v
      → Each (λ u. g u ≡ 0 → f u ≡ 0) views → total f views ≡ f v
  total_whole f g [] i v e all h = absurd (some-ne-none v (sym e))
  total_whole f g (x ∷ xs) zero v e all h =
      let s = ap f (some-injective x v e) in
      let t = ap g (some-injective x v e) in
      let none : total f xs ≡ 0 = zeros xs (λ j u a. h (suc j) u a) (omega (arith, t, all)) in
      omega (arith, s, none)
    where
      zeros : (us : List V) → Each (λ u. g u ≡ 0 → f u ≡ 0) us → total g us ≡ 0 → total f us ≡ 0
      zeros [] k z = refl
      zeros (y ∷ ys) k z = let a = k zero y refl (omega (arith, z)) in let b = zeros ys (λ j u q. k (suc j) u q) (omega (arith, z)) in
          omega (arith, a, b)
  total_whole f g (x ∷ xs) (suc i) v e all h =
      let m = total_member g xs i v e in
      let gx : g x ≡ 0 = omega (arith, m, all) in
      let a = h zero x refl gx in
      let b = total_whole f g xs i v e (omega (arith, all, gx)) (λ j u q. h (suc j) u q) in
      omega (arith, a, b)

  pub each_set : (F : V → Type 0) (views : List V) (i : ℕ) (w : V) → F w → Each F views → Each F (set views i w)
  each_set F views i w fw all j u e = ⊎_elim (λ (x : (j ≡ i) × (w ≡ u)). subst F x.1 fw)
      (λ (x : (j ≢ i) × (get_elem? views j ≡ some u)). all j u x.1) (at_set views i j w u e)

  pub each_snoc : (F : V → Type 0) (views : List V) (w : V) → F w → Each F views → Each F (views ++ w ∷ [])
  each_snoc F views w fw all j u e = ⊎_elim (λ x. all j u x) (λ (x : w ≡ u). subst F x fw) (at_snoc views w u j e)

  pub total_split : (f : V → ℕ) (views : List V) (i : ℕ) (v left right : V) → get_elem? views i ≡ some v → f left + f right ≡ f v
      → total f (set views i left ++ right ∷ []) ≡ total f views
  total_split f views i v left right e cut =
      let a = total_set f views i v left e in
      let b = total_snoc f (set views i left) right in
      omega (arith, a, b, cut)

  pub at_other : (views : List V) (i j : ℕ) (both w : V) → ¬ (j ≡ i) → get_elem? (set views i both) j ≡ some w → get_elem? views j ≡ some w
  at_other views i j both w ne e = ⊎_elim (λ (x : (j ≡ i) × (both ≡ w)). absurd (ne x.0))
      (λ (x : (j ≢ i) × (get_elem? views j ≡ some w)). x.1) (at_set views i j both w e)

  pub total_join : (f : V → ℕ) (views : List V) (i : ℕ) (v : V) (j : ℕ) (w both spent : V) → get_elem? views i ≡ some v
      → get_elem? (set views i both) j ≡ some w
      → f both ≡ f v + f w → f spent ≡ 0 → total f (set (set views i both) j spent) ≡ total f views
  total_join f views i v j w both spent e e' sum none =
      let a = total_set f views i v both e in
      let b = total_set f (set views i both) j w spent e' in
      omega (arith, a, b, sum, none)
