use Rattle.std.proofs.Common.{length}
use Rattle.mr_phase.proofs.Held.{Gone}
use Rattle.mr_phase.proofs.hands.hands_of.Given as goal

abbrev pub invariant-loop-worker : goal.invariant-loop-worker
invariant-loop-worker g l = Gone l.fn.workers.items l.workers.items l.hands.items

abbrev pub decreases-loop-worker : goal.decreases-loop-worker
decreases-loop-worker g l = length l.workers.items
