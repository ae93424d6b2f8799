use Rattle.std.proofs.Common.{◌≤◌, length}
use Rattle.mr_phase.proofs.mapped.pile_up.Given as goal

abbrev pub invariant-loop-hands : goal.invariant-loop-hands
invariant-loop-hands g l = length l.hands.items ≤ length l.fn.hands.items

abbrev pub decreases-loop-hands : goal.decreases-loop-hands
decreases-loop-hands g l = length l.hands.items
