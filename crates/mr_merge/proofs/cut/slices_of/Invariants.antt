use Rattle.std.proofs.Common.{◌≡◌, take}
use Rattle.mr_merge.specs.Lists.{lent, lists_of}
use Rattle.mr_merge.proofs.cut.slices_of.Given as goal

abbrev pub invariant-loop-list : goal.invariant-loop-list
invariant-loop-list g l = lent l.slices.items ≡ take l.list-index (lists_of l.lists)
