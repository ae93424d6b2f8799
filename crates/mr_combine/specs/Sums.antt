-- The sum of values with the sum of their magnitudes, which is bounded.
use Rattle.std.specs.Prelude.{◌≡◌, ℕ, ◌+◌, Bool, true, List, [], ◌∷◌, fold, ℤ, pos, ◌+ℤ◌, nat_abs, nat_le, Option}
use Rattle.std.specs.Option.{is_none, option_map_or}
use Rattle.std.proofs.Common.{sym, ap, ◌∙◌, arith}
use Rattle.std.proofs.Math.IntN.{+ℤ_comm, +ℤ_assoc, +ℤ_idl, +ℤ_idr}
use Rattle.std.proofs.lemmas.List.Sums.{sum_by-cons}
use Rattle.std.proofs.lemmas.Bool.Decides.{nat_tests}
use Rattle.mr_defs.specs.Commutative.{IsCommutative}
use Rattle.mr_defs.specs.Folded.{total, magnitude, sum_up_to}
use Rattle.mr_combine.specs.Fold.{IsFoldOf}
use Rattle.mr_combine.specs.Cells.{IsTotal}
use Rattle.mr_combine.specs.Bounded.{within, joined_within, IsBound, within_commutative, within_is_fold, over_stays, within_both}

-- a sum and the sum of the magnitudes
abbrev pub Summed : Type 0
Summed = ℤ × ℕ

abbrev pub summed : Summed → Summed → Summed
summed a b = (a.0 +ℤ b.0, a.1 + b.1)

abbrev pub sum_fits : ℕ → Summed → Bool
sum_fits most a = nat_le a.1 most

-- the cell of a value, and of two cells; None where the magnitudes pass the bound
abbrev pub sum_unit : ℕ → ℤ → Option Summed
sum_unit most v = within (sum_fits most) (v, nat_abs v)

abbrev pub sum_merged : ℕ → Option Summed → Option Summed → Option Summed
sum_merged most a b = joined_within (sum_fits most) summed a b

-- the number of a cell that is not over
abbrev pub sum_number : Option Summed → ℤ
sum_number c = option_map_or (λ a. a.0) c (pos 0)

pub summed_commutative : IsCommutative summed
summed_commutative = record {
  comm = λ a b. λ i. (+ℤ_comm a.0 b.0 i, add_comm a.1 b.1 i);
  assoc = λ a b c. λ i. (+ℤ_assoc a.0 b.0 c.0 i, add_assoc a.1 b.1 c.1 i);
}
  where
    add_comm : (m n : ℕ) → m + n ≡ n + m
    add_comm m n = omega arith

    add_assoc : (m n k : ℕ) → m + n + k ≡ m + (n + k)
    add_assoc m n k = omega arith

sum_bound : (most : ℕ) → IsBound (sum_fits most) summed
sum_bound most a b h = grind (arith, nat_tests)

pub sum_stays_over : (most : ℕ) (a b : Option Summed) → is_none a ≡ true → is_none (sum_merged most a b) ≡ true
sum_stays_over most a b h = over_stays (sum_fits most) summed a b h

pub sum_commutative : (most : ℕ) → IsCommutative (sum_merged most)
sum_commutative most = within_commutative (sum_fits most) summed summed_commutative (sum_bound most)

pub sums_join : (most : ℕ) (a b : Summed)
    → sum_merged most (within (sum_fits most) a) (within (sum_fits most) b) ≡ within (sum_fits most) (summed a b)
sums_join most a b = within_both (sum_fits most) summed summed_commutative (sum_bound most) a b

sum_from : (s : ℤ) (vs : List ℤ) → fold ◌+ℤ◌ s vs ≡ s +ℤ total vs
sum_from s [] = sym (+ℤ_idr s)
sum_from s (v ∷ vs) =
    sum_from (s +ℤ v) vs
    ∙ +ℤ_assoc s v (total vs)
    ∙ ap (λ t. s +ℤ t) (ap (λ t. t +ℤ total vs) (sym (+ℤ_idl v)) ∙ sym (sum_from (pos 0 +ℤ v) vs))

pub sum_total : IsTotal summed (λ v. (v, nat_abs v)) (λ vs. (total vs, magnitude vs))
sum_total = record {
  one = λ v. λ i. (+ℤ_idr v i, no_more (nat_abs v) i);
  more = λ v vs. λ i. ((sum_from (pos 0 +ℤ v) vs ∙ ap (λ t. t +ℤ total vs) (+ℤ_idl v)) i, sum_by-cons nat_abs v vs i);
}
  where
    no_more : (m : ℕ) → m + 0 ≡ m
    no_more m = omega arith

pub sum_is_fold : (most : ℕ) → IsFoldOf (sum_unit most) (sum_merged most) is_none (λ c. sum_number c ∷ []) (sum_up_to most)
sum_is_fold most =
    within_is_fold (sum_fits most) summed summed_commutative (sum_bound most) (λ v. (v, nat_abs v))
    (λ vs. (total vs, magnitude vs)) sum_total (λ c. sum_number c ∷ [])
