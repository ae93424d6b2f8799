use Rattle.std.proofs.Common.{◌≡◌}
use Rattle.mr_merge.specs.Lists.{rows_of}
use Rattle.mr_merge.proofs.ranges.appended.Given as goal

abbrev pub invariant-loop-list : goal.invariant-loop-list
invariant-loop-list g l = l.all.items ≡ rows_of l.yielded
