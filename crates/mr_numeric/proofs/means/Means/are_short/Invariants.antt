use Rattle.std.proofs.Common.{take}
use Rattle.std.specs.List.{All}
use Rattle.mr_numeric.specs.Distances.{AreShort}
use Rattle.mr_numeric.proofs.means.Means.are_short.Given as goal

abbrev pub invariant-loop-cluster : goal.invariant-loop-cluster
invariant-loop-cluster l = All AreShort (take l.cluster l.self)
