use Rattle.std.proofs.Common.{length}
use Rattle.mr_claims.proofs.Gathering.{Gathers}
use Rattle.mr_claims.proofs.queues.ClaimsTaskQueues.finish.Given as goal

abbrev pub invariant-loop-next : goal.invariant-loop-next
invariant-loop-next l = Gathers l.self l.seat l.passes.items l.fn.passes.items

abbrev pub decreases-loop-next : goal.decreases-loop-next
decreases-loop-next l = length l.passes.items
