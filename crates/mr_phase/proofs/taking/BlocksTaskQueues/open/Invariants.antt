use Rattle.std.proofs.Common.{◌≤◌, ◌+◌, length}
use Rattle.mr_base.specs.Tasks.{total_of}
use Rattle.mr_phase.proofs.Blocking.{Opening}
use Rattle.mr_phase.proofs.taking.BlocksTaskQueues.open.Given as goal

abbrev pub invariant-loop-number : goal.invariant-loop-number
invariant-loop-number l = Opening (total_of l.ranges) (length l.ranges) l.number l.passes.items × (l.queues ≤ l.passes.spare + l.number)
