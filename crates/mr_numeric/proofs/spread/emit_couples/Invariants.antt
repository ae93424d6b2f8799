use Rattle.std.proofs.Common.{◌++◌, ◌≤◌}
use Rattle.mr_numeric.specs.Pairs.{couple_emits}
use Rattle.mr_numeric.proofs.Emitted.{emitted}
use Rattle.mr_numeric.proofs.spread.emit_couples.Given as goal

abbrev pub invariant-loop-j : goal.invariant-loop-j
invariant-loop-j g l = record {
  from : l.i ≤ l.j;
  stands : (es : _) → g.L.Local.stands l.initial.out es → g.L.Local.stands l.out (es ++ emitted (couple_emits l.means l.row l.i) l.i l.j);
  origin : g.L.Local.same_origin l.initial.out l.out;
}
