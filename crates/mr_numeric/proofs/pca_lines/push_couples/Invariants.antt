use Rattle.std.proofs.Common.{◌≡◌, ◌≤◌, ◌++◌, ◌+◌, ◌*◌, pos, get_or}
use Rattle.mr_numeric.specs.Couples.{couple_text}
use Rattle.mr_numeric.proofs.Emitted.{emitted}
use Rattle.mr_numeric.proofs.pca_lines.push_couples.Given as goal

abbrev pub invariant-loop-j : goal.invariant-loop-j
invariant-loop-j l = record {
  from : l.i ≤ l.j;
  text : l.text ≡ l.initial.text ++ emitted (λ j. couple_text l.points l.i j (get_or l.sums (l.i * l.columns + j) (pos 0))) l.i l.j;
}
