use Rattle.std.proofs.Common.{◌≡◌, ◌-◌, ◌+◌, ◌<◌, ◌≤◌, ℕ, [], length, slice_index_or, false}
use Rattle.mr_claims.proofs.Unused.{Cutting}
use Rattle.mr_claims.proofs.queues.ClaimsTaskQueues.open.Given as goal

abbrev pub invariant-loop-number : goal.invariant-loop-number
invariant-loop-number l = Cutting l.claims l.seat l.number l.passes.items × (l.claims.ranges ≡ l.ranges) × (l.queues ≡ length l.ranges)
    × (l.queues ≤ l.passes.spare + l.number)
