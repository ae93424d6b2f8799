use Rattle.std.proofs.Common.{◌≡◌, take}
use Rattle.mr_items.specs.Grid.{columns_of}
use Rattle.mr_numeric.specs.Sums.{AreMeans}
use Rattle.mr_numeric.proofs.means.Means.first.Given as goal

abbrev pub invariant-loop-row : goal.invariant-loop-row
invariant-loop-row l = record { first : l.means.items ≡ take l.row l.grid; fit : AreMeans (columns_of l.grid) l.means.items }
