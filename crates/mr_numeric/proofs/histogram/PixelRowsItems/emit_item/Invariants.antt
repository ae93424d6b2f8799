use Rattle.std.proofs.Common.{◌++◌, ◌+◌, ◌*◌}
use Rattle.mr_items.specs.Histogram.{pixel_emits}
use Rattle.mr_numeric.proofs.Emitted.{emitted}
use Rattle.mr_numeric.proofs.histogram.PixelRowsItems.emit_item.Given as goal

abbrev pub invariant-loop-x : goal.invariant-loop-x
invariant-loop-x g l = record {
  stands : (es : _) → g.L.Local.stands l.initial.out es
      → g.L.Local.stands l.out (es ++ emitted (λ x. pixel_emits l.self.input.now (l.start + 3 * x)) 0 l.x);
  origin : g.L.Local.same_origin l.initial.out l.out;
}
