-- What a pass of the array is, what it won and was refused, and the pairs that the words hold.
use Rattle.std.specs.Prelude.{◌≡◌, ℕ, zero, suc, ℤ, ◌<◌, ◌==◌, cond, slice_index, slice_index_or, List, [], ◌∷◌, ◌++◌, length}
use Rattle.std.specs.Int.{cast_signed}
use mir.Syntax.{w64}
use Rattle.atomic_table.specs.Seated.{TableId}
use Rattle.mr_base.specs.Tasks.{IsApartBelow}
use Rattle.mr_common.specs.declared.common.CommonPass.{CommonPass}
use Rattle.mr_common.specs.Lawful.{EMPTY, keys}

abbrev pub won : CommonPass → List (ℕ × ℤ)
won p = p.seat.me.0.won

abbrev pub refused : CommonPass → List ℕ
refused p = p.seat.me.0.refused

-- a pass of the array whose table this is, of n words; it has won no key twice, and each is below n
abbrev pub IsPassOf : TableId → ℕ → CommonPass → Type 0
IsPassOf table n p = (p.seat.table_id ≡ table) × (p.seat.me.1 ≡ []) × (p.seat.me.0.weight ≡ 1) × IsApartBelow n (keys (won p))

abbrev pub ArePassesOf : TableId → ℕ → List CommonPass → Type 0
ArePassesOf table n ps = (i : ℕ) (p : CommonPass) → i < length ps → IsPassOf table n (slice_index_or ps i p)

-- it has won nothing and was refused nothing
abbrev pub IsUnused : CommonPass → Type 0
IsUnused p = (won p ≡ []) × (refused p ≡ [])

-- the pairs of the first n words that are not empty
abbrev pub pairs_to : List ℕ → ℕ → List (ℕ × ℤ)
pairs_to words zero = []
pairs_to words (suc k) = pairs_to words k ++ cond (slice_index words k == EMPTY) [] ((k, cast_signed w64 (slice_index words k)) ∷ [])

abbrev pub row_of : ℕ × ℤ → ℕ × List ℤ
row_of p = (p.0, p.1 ∷ [])
