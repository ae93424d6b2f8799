use Rattle.std.proofs.Common.{◌≡◌, true, false, slice_index_or}
use Rattle.mr_deques.specs.Passes.{IsPassOf, given_to}
use Rattle.mr_deques.proofs.queues.DequesTaskQueues.take.Given as goal

abbrev pub invariant-loop-step : goal.invariant-loop-step
invariant-loop-step l = IsPassOf l.self l.pass × (l.pass.number ≡ l.fn.pass.number) × (l.pass.ended ≡ false) × (l.fn.pass.ended ≡ false)
    × (slice_index_or l.pass.marked l.pass.number false ≡ true) × (given_to l.pass ≡ given_to l.fn.pass)
