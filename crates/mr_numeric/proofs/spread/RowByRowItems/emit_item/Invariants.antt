use Rattle.std.proofs.Common.{◌++◌, ◌-◌, length}
use Rattle.std.specs.Prelude.{flat_map}
use Rattle.std.specs.List.{range_with_len}
use Rattle.mr_numeric.specs.Pairs.{couple_emits}
use Rattle.mr_numeric.proofs.Emitted.{emitted}
use Rattle.mr_numeric.proofs.spread.RowByRowItems.emit_item.Given as goal

abbrev pub invariant-loop-i : goal.invariant-loop-i
invariant-loop-i g l = record {
  stands : (es : _) → g.L.Local.stands l.initial.out es
      → g.L.Local.stands l.out (es ++ emitted (λ i. flat_map (couple_emits l.means l.row i) (range_with_len i (length l.row - i))) 0 l.i);
  origin : g.L.Local.same_origin l.initial.out l.out;
}
