use Rattle.std.proofs.Common.{◌≡◌, ◌++◌, ◌∷◌, take}
use Rattle.std.specs.Prelude.{flat_map, decimal}
use Rattle.std.specs.List.{enumerate_from}
use Rattle.mr_items.specs.Texts.{line, spaced, number_at}
use Rattle.mr_numeric.proofs.cluster_lines.kmeans_text.Given as goal

abbrev pub invariant-loop-cluster : goal.invariant-loop-cluster
invariant-loop-cluster l = l.text
    ≡ flat_map (λ e. line (decimal e.0 ++ flat_map spaced (number_at l.rows e.0 ∷ e.1))) (take l.cluster (enumerate_from 0 l.means))
