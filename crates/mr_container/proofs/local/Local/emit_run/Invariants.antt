use Rattle.std.proofs.Common.{◌++◌, take, IsTrue}
use Rattle.mr_container.specs.Block.{run_emissions}
use Rattle.mr_container.proofs.local.Local.emit_run.Given as goal

abbrev pub invariant-loop-i : goal.invariant-loop-i
invariant-loop-i g l = record {
  stands : (es : _) → g.Self.Local.stands l.fn.self es
      → g.Self.Local.stands l.self (es ++ run_emissions l.key (take l.i (g.R.Run.values l.run)));
  spares : (k : _) → IsTrue (g.Self.Local.spares l.fn.self k) → IsTrue (g.Self.Local.spares l.self k);
  origin : g.Self.Local.same_origin l.fn.self l.self;
}
