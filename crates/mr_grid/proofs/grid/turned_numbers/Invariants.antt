use Rattle.std.proofs.Common.{◌≡◌, flat_map}
use Rattle.std.specs.List.{range_with_len}
use Rattle.mr_grid.specs.Dense.{column_in}
use Rattle.mr_grid.proofs.grid.turned_numbers.Given as goal

abbrev pub invariant-loop-column : goal.invariant-loop-column
invariant-loop-column l = l.turned.items ≡ flat_map (column_in l.numbers l.columns l.rows) (range_with_len 0 l.column)
