use Rattle.std.proofs.Common.{◌≡◌, ◌++◌}
use Rattle.mr_grid.specs.Dense.{column_in}
use Rattle.mr_grid.proofs.grid.push_column.Given as goal

abbrev pub invariant-loop-r : goal.invariant-loop-r
invariant-loop-r l = l.turned.items ≡ l.fn.turned.items ++ column_in l.numbers l.columns l.r l.column
