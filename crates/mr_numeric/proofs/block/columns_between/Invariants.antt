use Rattle.std.proofs.Common.{◌≡◌, ◌-◌, map}
use Rattle.std.specs.List.{All, range_with_len}
use Rattle.mr_numeric.specs.Blocks.{AreMild, deviations_of}
use Rattle.mr_numeric.proofs.block.columns_between.Given as goal

abbrev pub invariant-loop-j : goal.invariant-loop-j
invariant-loop-j l = record {
  columns : l.columns.items ≡ map (deviations_of l.means l.grid l.from (l.to - l.from)) (range_with_len 0 l.j);
  mild : All AreMild l.columns.items;
}
