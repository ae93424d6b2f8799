use Rattle.std.proofs.Common.{length}
use Rattle.mr_tests.proofs.shown.show_part.Given as goal

abbrev pub invariant-loop-key : goal.invariant-loop-key
invariant-loop-key g l = g.L.Parted.stands_in l.local l.cursor

abbrev pub decreases-loop-key : goal.decreases-loop-key
decreases-loop-key g l = length (g.L.Parted.left l.local l.cursor)
