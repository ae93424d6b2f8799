-- The capacities, and what the table of pairings says.
use Rattle.std.specs.Prelude.{ℤ, pos, [], ◌∷◌, Bool, ◌&&◌, List, Option, Some, None}
use Rattle.std.specs.List.{list_any}
use Rattle.std.specs.Ordering.{int_eq}
use Rattle.mr_capacity.specs.declared.jobs.JobKind.{JobKind}
use Rattle.mr_capacity.specs.declared.kinds.ContainerKind.{ContainerKind}
use Rattle.mr_capacity.specs.declared.kinds.KeyKind.{KeyKind}
use Rattle.mr_capacity.specs.declared.kinds.CombinerKind.{CombinerKind}
use Rattle.mr_capacity.specs.declared.kinds.CombinerKind.TheVariants as combiner
use Rattle.mr_capacity.specs.declared.kinds.ReducerKind.{ReducerKind}
use Rattle.mr_capacity.specs.declared.jobs.Further.{Further}
use Rattle.mr_capacity.specs.Jobs.{rows}
use Rattle.mr_capacity.specs.Rows.{PairingRow}
use Rattle.mr_capacity.specs.Same.{same_job, same_container, same_keys, same_combiner, same_reducer, same_further}

-- the capacities
abbrev pub capacities : List ℤ
capacities = pos 16 ∷ pos 64 ∷ pos 256 ∷ pos 768 ∷ pos 1024 ∷ pos 4096 ∷ pos 16384 ∷ pos 65536 ∷ []

abbrev pub is_capacity : ℤ → Bool
is_capacity n = list_any (λ m. int_eq m n) capacities

-- the row has this combiner with this reducer: only a buffer has one
abbrev pub has_combiner : PairingRow → CombinerKind → Option ReducerKind → Bool
has_combiner row c None = list_any (λ x. same_combiner x c) row.combiners
has_combiner row c (Some r) = same_combiner c combiner.Buffer && list_any (λ x. same_reducer x r) row.reducers

-- the row has this container, and this combiner with this reducer
abbrev pub has_parts : PairingRow → ContainerKind → CombinerKind → Option ReducerKind → Bool
has_parts row container combiner reducer =
    list_any (λ x. same_container x container) row.containers && has_combiner row combiner reducer

-- the row says that all these go together
abbrev pub is_row : PairingRow → JobKind → ContainerKind → KeyKind → CombinerKind → Option ReducerKind → Bool
is_row row job container keys combiner reducer =
    same_job row.job job && same_keys row.keys keys && has_parts row container combiner reducer

-- some row of the table does
abbrev pub is_pairing : JobKind → ContainerKind → KeyKind → CombinerKind → Option ReducerKind → Bool
is_pairing job container keys combiner reducer = list_any (λ row. is_row row job container keys combiner reducer) rows

-- a row of the job names these further keys
abbrev pub goes_with : Further → JobKind → Bool
goes_with further job = list_any (λ row. same_job row.job job && same_further row.further further) rows
