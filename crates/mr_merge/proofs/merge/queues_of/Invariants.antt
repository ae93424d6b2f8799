use Rattle.std.proofs.Common.{◌≡◌, map}
use Rattle.mr_merge.specs.Lists.{lists_of}
use Rattle.mr_merge.proofs.merge.queues_of.Given as goal

abbrev pub invariant-loop-list : goal.invariant-loop-list
invariant-loop-list g l = map (λ q. q.items) l.queues.items ≡ lists_of l.yielded
