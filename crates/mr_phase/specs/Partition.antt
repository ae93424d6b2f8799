-- What one partition of the keys of all hands comes to.
use Rattle.std.specs.Prelude.{◌≡◌, ℕ, ◌==◌, ◌++◌, ◌<◌, length, get_or, map, Bool, if◌then◌else◌, List, [], ◌∷◌, All, Option, None}
use Rattle.std.specs.Prelude.{filter_map, T}
use Rattle.std.specs.declared.cmp.Ordering.{Ordering}
use Rattle.std.specs.FinMap.{find, is_sorted}
use Rattle.std.specs.Borrow.{Bor}
use Rattle.std.specs.List.Sorted.{IsStrictlySortedBy}
use Rattle.mr_defs.specs.Commutative.{joined_by}
use Rattle.mr_defs.specs.Emission.{Answer, Row}
use Rattle.mr_defs.specs.Keyed.{lesser}
use Rattle.mr_base.specs.Spare.{Spared}
use Rattle.mr_container.specs.Partition.{IsPartition}
use Rattle.mr_container.specs.Entries.{seen_of}
use Rattle.mr_phase.specs.Folded.{fold_equal}
use Rattle.mr_phase.specs.Reduced.{entry_row, over_key}
use Rattle.mr_phase.specs.Taking.{AreInOrder}
use Rattle.mr_phase.specs.declared.partition.Partition.{Partition}

-- a list has one partition of a container more, at its end
pub record HasPartition {K C : Type 0} (R : K → K → Ordering) (cell : K → Option C) (part_of : K → ℕ) (part : ℕ)
    (before after : List (K × C)) : Type 0 where
  pub more : List (K × C)
  pub is_partition : IsPartition R cell part_of part more
  pub all : after ≡ before ++ more

-- the rows and the least key over are those of the keys of a partition, where whole has the merged cell of each key
pub record IsReducedPartition {K C : Type 0} (R : K → K → Ordering) (whole : K → Option C) (part_of : K → ℕ) (over : C → Bool)
    (answer : C → Answer) (part : ℕ) (rows : List (Row K)) (least_over : Option K) : Type 0 where
  pub entries : List (K × C)
  pub sorted : T (is_sorted R entries)
  pub found : (k : K) → find R k entries ≡ (if part_of k == part then whole k else None)
  pub rows_are : rows ≡ filter_map (entry_row over answer) entries
  pub over_is : least_over ≡ joined_by (lesser R) (over_key over) entries

-- the rows and the least key over are those of these entries, put in order and those of one key merged
pub record AreFolded {K C : Type 0} (R : K → K → Ordering) (merged : C → C → C) (over : C → Bool) (answer : C → Answer)
    (entries : List (Bor K × Bor C)) (p : Partition K) : Type 0 where
  pub sorted : List (Bor K × Bor C)
  pub in_order : AreInOrder R entries sorted
  pub rows_are : p.rows ≡ filter_map (entry_row over answer) (fold_equal R merged (seen_of sorted))
  pub over_is : p.over ≡ joined_by (lesser R) (over_key over) (fold_equal R merged (seen_of sorted))

-- it is the partition with this number, and its rows ascend
abbrev pub IsReducedAt : {K C : Type 0} → (K → K → Ordering) → (K → Option C) → (K → ℕ) → (C → Bool) → (C → Answer) → ℕ → Partition K
    → Type 0
IsReducedAt R whole part_of over answer part p =
    IsStrictlySortedBy R (map (λ row. row.0) p.rows) × IsReducedPartition R whole part_of over answer part p.rows p.over

-- each is the partition of its place
abbrev pub AreReduced : {K C : Type 0} → (K → K → Ordering) → (K → Option C) → (K → ℕ) → (C → Bool) → (C → Answer) → List (Partition K)
    → Type 0
AreReduced {K} R whole part_of over answer ps =
    (i : ℕ) (p : Partition K) → i < length ps → p ≡ get_or ps i p → IsReducedAt R whole part_of over answer i p

-- the partitions that a worker has reduced, beside the numbers that it took
abbrev pub HaveReduced : {K C : Type 0} → (K → K → Ordering) → (K → Option C) → (K → ℕ) → (C → Bool) → (C → Answer) → Spared (Partition K)
    → List ℕ → Type 0
HaveReduced R whole part_of over answer ps taken =
    (map (λ p. p.part) ps.items ≡ taken) × All (λ p. IsReducedAt R whole part_of over answer p.part p) ps.items

-- a number that is taken stands for itself; and workers of a reduction come from nowhere
abbrev pub itself : ℕ → List ℕ
itself part = part ∷ []

abbrev pub anywhere : {X : Type 0} → X → X → Type 0
anywhere x y = Unit {0}
