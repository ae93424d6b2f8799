use Rattle.std.proofs.Common.{flat_map, ◌≡◌, ◌≤◌, ℕ, length}
use Rattle.mr_base.specs.Tasks.{times}
use Rattle.mr_deques.specs.Passes.{given_to}
use Rattle.mr_deques.specs.Phases.{Joined}
use Rattle.mr_deques.proofs.gather.gather_all.Given as goal

abbrev pub invariant-loop-q : goal.invariant-loop-q
invariant-loop-q l = Joined l.deques l.q l.all × (l.q ≤ length l.deques.ranges)
    × ((x : ℕ) → times x (flat_map given_to l.all) ≡ times x (flat_map given_to l.fn.all))

abbrev pub decreases-loop-q : goal.decreases-loop-q
decreases-loop-q l = l.q
