use Rattle.std.proofs.Common.{◌≡◌, ◌∷◌, map, take}
use Rattle.mr_combine.specs.Counts.{count_number}
use Rattle.mr_combine.specs.Sums.{sum_number}
use Rattle.mr_combine.proofs.points.PlainReducerVecSum.reduce.Given as goal

abbrev pub invariant-loop-sum : goal.invariant-loop-sum
invariant-loop-sum l = l.numbers.items ≡ count_number l.fn.cell.0 ∷ map sum_number (take l.sum-index l.sum-items)
