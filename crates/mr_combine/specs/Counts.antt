-- The number of values, which is bounded.
use Rattle.std.specs.Prelude.{◌≡◌, ℕ, ◌+◌, Bool, true, [], ◌∷◌, length, ℤ, pos, nat_le, Option}
use Rattle.std.specs.Option.{is_none, option_map_or}
use Rattle.std.proofs.Common.{refl, arith}
use Rattle.std.proofs.lemmas.Bool.Decides.{nat_tests}
use Rattle.mr_defs.specs.Commutative.{IsCommutative}
use Rattle.mr_defs.specs.Folded.{limit, count_folded}
use Rattle.mr_combine.specs.Fold.{IsFoldOf}
use Rattle.mr_combine.specs.Cells.{IsTotal}
use Rattle.mr_combine.specs.Bounded.{within, joined_within, IsBound, within_commutative, within_is_fold, over_stays, within_both}

abbrev pub count_fits : ℕ → Bool
count_fits n = nat_le n limit

-- the cell of a value, and of two cells; None where the number passes the limit
abbrev pub count_unit : ℤ → Option ℕ
count_unit v = within count_fits 1

abbrev pub count_merged : Option ℕ → Option ℕ → Option ℕ
count_merged a b = joined_within count_fits ◌+◌ a b

-- the number of a cell that is not over
abbrev pub count_number : Option ℕ → ℤ
count_number c = option_map_or pos c (pos 0)

plus_commutative : IsCommutative ◌+◌
plus_commutative = record { comm = λ m n. omega arith; assoc = λ m n k. omega arith }

count_bound : IsBound count_fits ◌+◌
count_bound m n h = grind (arith, nat_tests)

pub count_commutative : IsCommutative count_merged
count_commutative = within_commutative count_fits ◌+◌ plus_commutative count_bound

pub count_stays_over : (a b : Option ℕ) → is_none a ≡ true → is_none (count_merged a b) ≡ true
count_stays_over a b h = over_stays count_fits ◌+◌ a b h

pub counts_join : (m n : ℕ) → count_merged (within count_fits m) (within count_fits n) ≡ within count_fits (m + n)
counts_join m n = within_both count_fits ◌+◌ plus_commutative count_bound m n

pub length_total : {V : Type 0} → IsTotal {V = V} ◌+◌ (λ v. 1) length
length_total = record { one = λ v. refl; more = λ v vs. omega arith }

pub count_is_fold : IsFoldOf count_unit count_merged is_none (λ c. count_number c ∷ []) count_folded
count_is_fold = within_is_fold count_fits ◌+◌ plus_commutative count_bound (λ v. 1) length length_total (λ c. count_number c ∷ [])
