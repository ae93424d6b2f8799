-- What the workers of a phase over the common array won.
use Rattle.std.specs.Prelude.{◌≡◌, ℕ, ℤ, List, All, Contains, flat_map, length, map, nat_lt}
use Rattle.std.specs.List.{range_with_len}
use Rattle.std.specs.List.Sorted.{IsPermutation}
use Rattle.std.specs.Ordering.{nat_cmp}
use Rattle.mr_base.specs.Noting.{noted_of}
use Rattle.mr_defs.specs.Emission.{Emission, Pair, Row}
use Rattle.mr_defs.specs.Stands.{SharesFor}
use Rattle.mr_common.specs.declared.common.CommonArray.{CommonArray}
use Rattle.mr_common.specs.declared.common_local.CommonLocal.{CommonLocal}
use Rattle.mr_common.specs.Passes.{row_of, won, refused}
use Rattle.mr_phase.specs.declared.common.CommonHand.{CommonHand}
use Rattle.mr_phase.specs.declared.common.Left.{Left}
use Rattle.mr_phase.specs.declared.hands.Hand.{Hand}
use Rattle.mr_phase.specs.Spread.{noted_all}

-- beside each hand the pairs that its worker won: as many as it has cells, each emitted by one of its tasks, and the rows are those of all
-- hands
pub record AreWon (emits : ℕ → List (Emission ℕ ℤ)) (rows : List (Row ℕ)) (hands : List CommonHand) : Type 0 where
  pub wins : List (CommonHand × List (ℕ × ℤ))
  pub hands_are : hands ≡ map (λ w. w.0) wins
  pub each : All (λ w. (w.0.cells ≡ length w.1) × All (λ p. Contains (flat_map emits w.0.tasks.items) (Pair p.0 p.1)) w.1) wins
  pub all : IsPermutation (map row_of (flat_map (λ w. w.1) wins)) rows

-- what is told of a worker's hand
abbrev pub hand_of : Hand CommonLocal → CommonHand
hand_of h = record { tasks = h.tasks; cells = h.local.cells }

-- so many workers at the array, the last first, took each of so many tasks once; what each won and was refused is its share of what its
-- tasks emit; and this is what they leave
pub record IsLeft (array : CommonArray) (count tasks : ℕ) (emits : ℕ → List (Emission ℕ ℤ)) (left : Left) : Type 0 where
  pub workers : List (Hand CommonLocal)
  pub count_is : length workers ≡ count
  pub once : IsPermutation (range_with_len 0 tasks) (flat_map (λ h. h.tasks.items) workers)
  pub over : All (λ h. h.local.array.now ≡ array) workers
  pub shares : All (λ h. SharesFor nat_cmp (λ k. nat_lt k h.local.array.now.size) (won h.local.pass) (refused h.local.pass) h.local.cells
      (noted_of h.local.faults) (flat_map emits h.tasks.items)) workers
  pub hands : left.hands.items ≡ map hand_of workers
  pub passes : left.passes.items ≡ map (λ h. h.local.pass) workers
  pub faults : noted_of left.faults ≡ noted_all nat_cmp (λ h. noted_of h.local.faults) workers
