use Rattle.std.proofs.Common.{◌≡◌, take, map}
use Rattle.std.specs.List.{enumerate_from}
use Rattle.mr_items.specs.KMeans.{mean_of}
use Rattle.mr_items.specs.Texts.{answer_at}
use Rattle.mr_numeric.proofs.new_means.next_means.Given as goal

abbrev pub invariant-loop-cluster : goal.invariant-loop-cluster
invariant-loop-cluster l = l.next.items ≡ map (λ e. mean_of e.1 (answer_at l.rows e.0)) (take l.cluster (enumerate_from 0 l.means))
