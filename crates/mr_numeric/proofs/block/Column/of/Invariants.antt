use Rattle.std.proofs.Common.{◌≡◌, ◌≤◌, ◌-◌}
use Rattle.mr_numeric.specs.Blocks.{AreMild, deviations_of}
use Rattle.mr_numeric.proofs.block.Column.of.Given as goal

abbrev pub invariant-loop-r : goal.invariant-loop-r
invariant-loop-r l = record {
  from : l.from ≤ l.r;
  deviations : l.deviations.items ≡ deviations_of l.means l.grid l.from (l.r - l.from) l.j;
  mild : AreMild l.deviations.items;
}
