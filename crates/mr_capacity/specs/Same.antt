-- Whether two kinds are the same.
use Rattle.std.specs.Prelude.{Bool}
use denote.Enum.Bare.{sameb}
use Rattle.mr_capacity.specs.declared.jobs.JobKind.{JobKind}
use Rattle.mr_capacity.specs.declared.kinds.ContainerKind.{ContainerKind}
use Rattle.mr_capacity.specs.declared.kinds.KeyKind.{KeyKind}
use Rattle.mr_capacity.specs.declared.kinds.CombinerKind.{CombinerKind}
use Rattle.mr_capacity.specs.declared.kinds.ReducerKind.{ReducerKind}
use Rattle.mr_capacity.specs.declared.kinds.QueueKind.{QueueKind}
use Rattle.mr_capacity.specs.declared.jobs.Further.{Further}
use Rattle.mr_capacity.specs.contracts.jobs.JobKind as job
use Rattle.mr_capacity.specs.contracts.kinds.ContainerKind as container
use Rattle.mr_capacity.specs.contracts.kinds.KeyKind as keys
use Rattle.mr_capacity.specs.contracts.kinds.CombinerKind as combiner
use Rattle.mr_capacity.specs.contracts.kinds.ReducerKind as reducer
use Rattle.mr_capacity.specs.contracts.kinds.QueueKind as queue
use Rattle.mr_capacity.specs.contracts.jobs.Further as further

-- of two values of one kind, by their variants
abbrev pub same_job : JobKind → JobKind → Bool
same_job a b = sameb job.the_type a b

abbrev pub same_container : ContainerKind → ContainerKind → Bool
same_container a b = sameb container.the_type a b

abbrev pub same_keys : KeyKind → KeyKind → Bool
same_keys a b = sameb keys.the_type a b

abbrev pub same_combiner : CombinerKind → CombinerKind → Bool
same_combiner a b = sameb combiner.the_type a b

abbrev pub same_reducer : ReducerKind → ReducerKind → Bool
same_reducer a b = sameb reducer.the_type a b

abbrev pub same_queue : QueueKind → QueueKind → Bool
same_queue a b = sameb queue.the_type a b

abbrev pub same_further : Further → Further → Bool
same_further a b = sameb further.the_type a b
