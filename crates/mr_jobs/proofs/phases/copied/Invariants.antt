use Rattle.std.proofs.Common.{◌≡◌, take}
use Rattle.mr_jobs.proofs.phases.copied.Given as goal

abbrev pub invariant-loop-task : goal.invariant-loop-task
invariant-loop-task l = l.copy.items ≡ take l.task-index l.tasks
