use Rattle.std.proofs.Common.{◌≡◌, ◌≤◌, ◌+◌, map}
use Rattle.std.specs.List.{range_with_len}
use Rattle.mr_base.specs.Tasks.{range_of}
use Rattle.mr_base.proofs.ranges.Ranges.even.Given as goal

abbrev pub invariant-loop-q : goal.invariant-loop-q
invariant-loop-q l = (l.kept.items ≡ map (range_of l.tasks l.queues) (range_with_len 0 l.q)) × (l.queues ≤ l.kept.spare + l.q)
