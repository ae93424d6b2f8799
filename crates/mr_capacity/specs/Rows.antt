-- A row of the table of pairings: a job and its key kind, what they go together with, and the further keys of the job's file.
use Rattle.std.specs.Prelude.{List}
use Rattle.std.specs.Borrow.{Bor}
use Rattle.mr_capacity.specs.declared.jobs.JobKind.{JobKind}
use Rattle.mr_capacity.specs.declared.kinds.ContainerKind.{ContainerKind}
use Rattle.mr_capacity.specs.declared.kinds.KeyKind.{KeyKind}
use Rattle.mr_capacity.specs.declared.kinds.CombinerKind.{CombinerKind}
use Rattle.mr_capacity.specs.declared.kinds.ReducerKind.{ReducerKind}
use Rattle.mr_capacity.specs.declared.jobs.Further.{Further}

-- a row of the table of pairings
pub record PairingRow : Type 0 where
  pub job : JobKind
  pub keys : KeyKind
  pub containers : List ContainerKind
  pub combiners : List CombinerKind
  pub reducers : List ReducerKind
  pub further : Further

-- its columns in their order
abbrev pub row_of : JobKind → KeyKind → List ContainerKind → List CombinerKind → List ReducerKind → Further → PairingRow
row_of job keys containers combiners reducers further =
    record { job = job; keys = keys; containers = containers; combiners = combiners; reducers = reducers; further = further }

-- a row as the code holds it
abbrev pub seen_row : JobKind × KeyKind × Bor (List ContainerKind) × Bor (List CombinerKind) × Bor (List ReducerKind) × Further → PairingRow
seen_row row = row_of row.0 row.1 row.2.now row.3.now row.4.now row.5
