use Rattle.std.proofs.Common.{◌≡◌, take}
use Rattle.mr_numeric.proofs.means.Means.same.Given as goal

abbrev pub invariant-loop-cluster : goal.invariant-loop-cluster
invariant-loop-cluster l = take l.cluster l.self ≡ take l.cluster l.other
