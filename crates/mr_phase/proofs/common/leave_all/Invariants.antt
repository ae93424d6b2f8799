use Rattle.std.proofs.Common.{length}
use Rattle.mr_base.specs.Noting.{noted_of}
use Rattle.mr_phase.specs.Common.{hand_of}
use Rattle.mr_phase.proofs.Leaving.{Leaving}
use Rattle.mr_phase.proofs.common.leave_all.Given as goal

abbrev pub invariant-loop-hand : goal.invariant-loop-hand
invariant-loop-hand l = Leaving hand_of (λ h. h.local.pass)
    (λ h. noted_of h.local.faults) l.fn.mapped l.all.items l.hands.items l.passes.items (noted_of l.faults)

abbrev pub decreases-loop-hand : goal.decreases-loop-hand
decreases-loop-hand l = length l.all.items
