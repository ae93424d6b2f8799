use Rattle.std.proofs.Common.{◌≡◌}
use Rattle.mr_defs.specs.Partitions.{concatenated}
use Rattle.mr_merge.proofs.text.appended.Given as goal

abbrev pub invariant-loop-text : goal.invariant-loop-text
invariant-loop-text l = l.all ≡ concatenated l.yielded
