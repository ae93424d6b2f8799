use Rattle.std.proofs.Common.{◌≡◌, take}
use Rattle.mr_numeric.proofs.means.mean_of_row.Given as goal

abbrev pub invariant-loop-number : goal.invariant-loop-number
invariant-loop-number l = l.coordinates.items ≡ take l.number-index l.row
