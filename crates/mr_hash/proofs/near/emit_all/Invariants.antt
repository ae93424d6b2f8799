use Rattle.std.proofs.Common.{◌++◌, IsTrue}
use Rattle.mr_container.specs.Block.{block_emissions}
use Rattle.mr_hash.proofs.near.emit_all.Given as goal

abbrev pub invariant-loop-key : goal.invariant-loop-key
invariant-loop-key g l = record {
  stands : (es : _) → g.L.Near.stands l.initial.local es → g.L.Near.stands l.local (es ++ block_emissions l.yielded);
  spares : (k : _) → IsTrue (g.L.Near.spares l.initial.local k) → IsTrue (g.L.Near.spares l.local k);
}
