use Rattle.std.proofs.Common.{◌++◌, ◌≤◌, ◌-◌}
use Rattle.mr_items.specs.Pca.{spread_emits}
use Rattle.mr_numeric.proofs.Emitted.{emitted}
use Rattle.mr_numeric.proofs.spread.DeviationsItems.emit_items.Given as goal

abbrev pub invariant-loop-at : goal.invariant-loop-at
invariant-loop-at g l = record {
  from : l.from ≤ l.at;
  to : l.at ≤ l.to;
  stands : (es : _) → g.L.Local.stands l.initial.out es
      → g.L.Local.stands l.out (es ++ emitted (spread_emits l.self.rows.means.now l.self.rows.grid.now) l.from l.at);
  origin : g.L.Local.same_origin l.initial.out l.out;
}

abbrev pub decreases-loop-at : goal.decreases-loop-at
decreases-loop-at g l = l.to - l.at
