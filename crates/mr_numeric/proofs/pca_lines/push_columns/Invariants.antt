use Rattle.std.proofs.Common.{◌≡◌, ◌++◌, pos, get_or}
use Rattle.mr_numeric.specs.Couples.{column_lines}
use Rattle.mr_numeric.proofs.Emitted.{emitted}
use Rattle.mr_numeric.proofs.pca_lines.push_columns.Given as goal

abbrev pub invariant-loop-i : goal.invariant-loop-i
invariant-loop-i l = l.text ≡ l.initial.text ++ emitted (column_lines l.points l.columns (λ k. get_or l.sums k (pos 0))) 0 l.i
