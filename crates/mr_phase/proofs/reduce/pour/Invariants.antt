use Rattle.std.proofs.Common.{◌++◌, length}
use Rattle.std.specs.List.Sorted.{IsPermutation}
use Rattle.mr_phase.proofs.reduce.pour.Given as goal

abbrev pub invariant-loop-partition : goal.invariant-loop-partition
invariant-loop-partition g l = IsPermutation (l.fn.all.items ++ l.fn.from.items) (l.all.items ++ l.from.items)

abbrev pub decreases-loop-partition : goal.decreases-loop-partition
decreases-loop-partition g l = length l.from.items
