use Rattle.std.proofs.Common.{◌≡◌, ◌<◌, ◌≤◌, ℕ, true, false, length, slice_index_or}
use Rattle.mr_claims.specs.Passes.{IsPassOf, given_to, queue_after}
use Rattle.mr_claims.proofs.queues.ClaimsTaskQueues.take.Given as goal

abbrev pub invariant-loop-step : goal.invariant-loop-step
invariant-loop-step l = IsPassOf l.self l.pass × (l.pass.number ≡ l.fn.pass.number) × (l.pass.ended ≡ false) × (l.fn.pass.ended ≡ false)
    × (l.queues ≡ length l.self.ranges) × (given_to l.pass ≡ given_to l.fn.pass)
    × ((k : ℕ) → k < l.step → slice_index_or l.pass.seen (queue_after l.queues l.fn.pass.number k) false ≡ true)
