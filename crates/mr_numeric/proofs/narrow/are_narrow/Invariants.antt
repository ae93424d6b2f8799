use Rattle.std.proofs.Common.{take}
use Rattle.mr_numeric.specs.Narrow.{AreNarrow}
use Rattle.mr_numeric.proofs.narrow.are_narrow.Given as goal

abbrev pub invariant-loop-row : goal.invariant-loop-row
invariant-loop-row l = AreNarrow (take l.row l.grid)
