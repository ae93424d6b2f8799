use Rattle.std.proofs.Common.{length}
use Rattle.mr_phase.proofs.mapped.Mapped.free.Given as goal

abbrev pub decreases-loop-hand : goal.decreases-loop-hand
decreases-loop-hand g l = length l.self-inside.hands.items
