use Rattle.std.proofs.Common.{◌≡◌, true, false, slice_index_or}
use Rattle.mr_deques.specs.Passes.{IsPassOf, given_to}
use Rattle.mr_deques.proofs.take.steal_from.Given as goal

abbrev pub invariant-loop : goal.invariant-loop
invariant-loop l = IsPassOf l.deques l.pass × (l.pass.number ≡ l.fn.pass.number) × (l.pass.ended ≡ false)
    × (slice_index_or l.pass.marked l.pass.number false ≡ true) × (given_to l.pass ≡ given_to l.fn.pass)
