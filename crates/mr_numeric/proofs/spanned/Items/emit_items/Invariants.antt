use Rattle.std.proofs.Common.{◌++◌, ◌≤◌}
use Rattle.mr_numeric.proofs.Emitted.{emitted}
use Rattle.mr_numeric.proofs.spanned.Items.emit_items.Given as goal

abbrev pub invariant-loop-item : goal.invariant-loop-item
invariant-loop-item g l = record {
  from : l.initial.item ≤ l.item;
  stands : (es : _) → g.L.Local.stands l.initial.out es
      → g.L.Local.stands l.out (es ++ emitted (g.Self.Items.emits l.self) l.initial.item l.item);
  origin : g.L.Local.same_origin l.initial.out l.out;
}
