use Rattle.std.proofs.Common.{◌≡◌, take}
use Rattle.mr_items.specs.Pca.{column_means}
use Rattle.mr_numeric.proofs.means_of_columns.column_means.Given as goal

abbrev pub invariant-loop-row : goal.invariant-loop-row
invariant-loop-row l = l.means.items ≡ column_means (take l.row-index l.rows) l.points
