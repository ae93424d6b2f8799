-- Chains of entries, by partition.
use Rattle.std.specs.Prelude.{◌≡◌, ◌≢◌, ℕ, ◌%◌, ◌<◌, ◌≤◌, List, length, slice_index}
use Rattle.std.proofs.Props.{props}

-- of entries with these buckets, in as many partitions as there are heads
pub record IsChained (heads links buckets : List ℕ) : Type 0 where
  -- no entry before a head is one of its partition
  pub first : (part place : ℕ) → part < length heads → place < length buckets → place < slice_index heads part
      → slice_index buckets place % length heads ≢ part
  -- and none between an entry and its link is one of the entry's
  pub next : (place between : ℕ) → 1 ≤ length heads → place < length links → place < between → between < length buckets
      → between < slice_index links place
      → slice_index buckets between % length heads ≢ slice_index buckets place % length heads
  pub later : (place : ℕ) → 1 ≤ length heads → place < length links → place < slice_index links place

pub IsChained-prop : (heads links buckets : List ℕ) → IsProp (IsChained heads links buckets)
IsChained-prop heads links buckets = hlevel props
