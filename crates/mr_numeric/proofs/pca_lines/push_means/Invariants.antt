use Rattle.std.proofs.Common.{◌≡◌, ◌++◌}
use Rattle.mr_numeric.proofs.Emitted.{emitted}
use Rattle.mr_numeric.proofs.MeanLines.{mean_at}
use Rattle.mr_numeric.proofs.pca_lines.push_means.Given as goal

abbrev pub invariant-loop-column : goal.invariant-loop-column
invariant-loop-column l = l.text ≡ l.initial.text ++ emitted (mean_at l.means) 0 l.column
