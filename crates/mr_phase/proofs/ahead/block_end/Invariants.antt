use Rattle.std.proofs.Common.{length, ◌-◌, ◌<◌, ◌≤◌}
use Rattle.mr_phase.proofs.ahead.block_end.Given as goal

abbrev pub invariant-loop-end : goal.invariant-loop-end
invariant-loop-end l = (l.start < l.end) × (l.end ≤ length l.words)

abbrev pub decreases-loop-end : goal.decreases-loop-end
decreases-loop-end l = length l.words - l.end
