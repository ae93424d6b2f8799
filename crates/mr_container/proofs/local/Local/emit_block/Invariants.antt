use Rattle.std.proofs.Common.{◌++◌, IsTrue}
use Rattle.mr_container.specs.Block.{block_emissions}
use Rattle.mr_container.proofs.local.Local.emit_block.Given as goal

abbrev pub invariant-loop-key : goal.invariant-loop-key
invariant-loop-key g l = record {
  stands : (es : _) → g.Self.Local.stands l.initial.self es → g.Self.Local.stands l.self (es ++ block_emissions l.yielded);
  spares : (k : _) → IsTrue (g.Self.Local.spares l.initial.self k) → IsTrue (g.Self.Local.spares l.self k);
  origin : g.Self.Local.same_origin l.initial.self l.self;
}
