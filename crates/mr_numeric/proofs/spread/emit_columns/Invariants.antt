use Rattle.std.proofs.Common.{◌++◌, ℕ, IsTrue}
use Rattle.mr_numeric.specs.Blocks.{column_runs}
use Rattle.mr_numeric.proofs.Emitted.{emitted}
use Rattle.mr_numeric.proofs.spread.emit_columns.Given as goal

abbrev pub invariant-loop-i : goal.invariant-loop-i
invariant-loop-i g l = record {
  stands : (es : _) → g.L.Local.stands l.initial.out es → g.L.Local.stands l.out (es ++ emitted (column_runs l.columns) 0 l.i);
  spares : (k : ℕ) → IsTrue (g.L.Local.spares l.out k);
  origin : g.L.Local.same_origin l.initial.out l.out;
}
