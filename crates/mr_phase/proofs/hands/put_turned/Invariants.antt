use Rattle.std.proofs.Common.{◌≡◌, ◌++◌, length, reverse}
use Rattle.mr_phase.proofs.hands.put_turned.Given as goal

abbrev pub invariant-loop-item : goal.invariant-loop-item
invariant-loop-item g l = l.fn.onto.items ++ reverse l.fn.items.items ≡ l.onto.items ++ reverse l.items.items

abbrev pub decreases-loop-item : goal.decreases-loop-item
decreases-loop-item g l = length l.items.items
