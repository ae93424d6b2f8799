use Rattle.std.proofs.Common.{◌++◌, ◌≤◌, ℕ, IsTrue}
use Rattle.mr_numeric.specs.Blocks.{couple_run}
use Rattle.mr_numeric.proofs.Emitted.{emitted}
use Rattle.mr_numeric.proofs.spread.emit_runs.Given as goal

abbrev pub invariant-loop-j : goal.invariant-loop-j
invariant-loop-j g l = record {
  from : l.i ≤ l.j;
  stands : (es : _) → g.L.Local.stands l.initial.out es → g.L.Local.stands l.out (es ++ emitted (couple_run l.columns l.i) l.i l.j);
  spares : (k : ℕ) → IsTrue (g.L.Local.spares l.out k);
  origin : g.L.Local.same_origin l.initial.out l.out;
}
