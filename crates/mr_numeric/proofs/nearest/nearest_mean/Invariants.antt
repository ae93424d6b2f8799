use Rattle.mr_numeric.proofs.NearestMeans.{IsNearest}
use Rattle.mr_numeric.proofs.nearest.nearest_mean.Given as goal

abbrev pub invariant-loop-cluster : goal.invariant-loop-cluster
invariant-loop-cluster l = IsNearest l.means l.point 340282366920938463463374607431768211455 l.cluster l.first l.least
