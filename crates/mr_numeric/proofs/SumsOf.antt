-- The emission of a sum, where it is within the limit.
use Rattle.std.proofs.Common.{◌≡◌, ◌≤◌, ℕ, ◌+◌, ℤ, pos, ◌+ℤ◌, nat_abs, Bool, true, false, cond, List, [], ◌∷◌, Option, Some, None, refl}
use Rattle.std.proofs.Common.{sym, ap, ◌∙◌, arith}
use Rattle.std.specs.Prelude.{nat_le, fold, IfSome}
use Rattle.std.proofs.Math.IntN.{+ℤ_idl}
use Rattle.std.proofs.lemmas.Bool.{leb-true}
use Rattle.std.proofs.lemmas.Int.{ints}
use Rattle.std.proofs.lemmas.List.Sums.{sum_by-cons}
use Rattle.mr_defs.specs.Emission.{Pair, TooLarge}
use Rattle.mr_defs.specs.Folded.{limit, total, magnitude}
use Rattle.mr_items.specs.MatrixProduct.{sum_emits}
use Rattle.mr_numeric.specs.Pairs.{sum_of}

abs_add : (a b : ℤ) → nat_abs (a +ℤ b) ≤ nat_abs a + nat_abs b
abs_add a b = grind (arith, ints)

pub sum_small : (s : ℤ) (vs : List ℤ) → nat_abs (fold ◌+ℤ◌ s vs) ≤ nat_abs s + magnitude vs
sum_small s [] = omega arith
sum_small s (v ∷ vs) = omega (arith, sum_small (s +ℤ v) vs, abs_add s v, sum_by-cons nat_abs v vs)

-- a sum whose magnitudes are within the limit, or none
abbrev pub sum_within : List ℤ → Option ℤ
sum_within vs = cond (nat_le (magnitude vs) limit) (Some (total vs)) None

pub sum_is_small : (vs : List ℤ) → IfSome (sum_within vs) (λ z. nat_abs z ≤ limit)
sum_is_small vs = by (nat_le (magnitude vs) limit) refl
  where
    by : (b : Bool) → nat_le (magnitude vs) limit ≡ b → IfSome (cond b (Some (total vs)) None) (λ z. nat_abs z ≤ limit)
    by true e = omega (arith, sum_small (pos 0) vs, leb-true (magnitude vs) limit e)
    by false e = tt

pub sum_of_sum : (k : ℕ) (vs : List ℤ) → sum_of k (sum_within vs) ≡ sum_emits k vs
sum_of_sum k vs = by (nat_le (magnitude vs) limit)
  where
    by : (b : Bool) → sum_of k (cond b (Some (total vs)) None) ≡ cond b (Pair k (total vs)) (TooLarge k) ∷ []
    by true = refl
    by false = refl

-- the same of one number
abbrev pub number_within : ℤ → Option ℤ
number_within z = cond (nat_le (nat_abs z) limit) (Some z) None

number_is_sum : (z : ℤ) → number_within z ≡ sum_within (z ∷ [])
number_is_sum z = let same = sym (+ℤ_idl z) in λ i. cond (nat_le (size i) limit) (Some (same i)) None
  where
    size : nat_abs z ≡ magnitude (z ∷ [])
    size = omega (arith, sum_by-cons nat_abs z [])

pub number_is_small : (z : ℤ) → IfSome (number_within z) (λ y. nat_abs y ≤ limit)
number_is_small z = by (nat_le (nat_abs z) limit) refl
  where
    by : (b : Bool) → nat_le (nat_abs z) limit ≡ b → IfSome (cond b (Some z) None) (λ y. nat_abs y ≤ limit)
    by true e = leb-true (nat_abs z) limit e
    by false e = tt

pub sum_of_number : (k : ℕ) (z : ℤ) → sum_of k (number_within z) ≡ sum_emits k (z ∷ [])
sum_of_number k z = ap (sum_of k) (number_is_sum z) ∙ sum_of_sum k (z ∷ [])
