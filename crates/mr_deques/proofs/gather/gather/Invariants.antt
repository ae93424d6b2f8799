use Rattle.std.proofs.Common.{flat_map, ◌≡◌, ℕ}
use Rattle.mr_base.specs.Tasks.{times}
use Rattle.mr_deques.specs.Passes.{given_to}
use Rattle.mr_deques.specs.Phases.{Joining}
use Rattle.mr_deques.proofs.gather.gather.Given as goal

abbrev pub invariant-loop-w : goal.invariant-loop-w
invariant-loop-w l = Joining l.deques l.q l.w l.all × ((x : ℕ) → times x (flat_map given_to l.all) ≡ times x (flat_map given_to l.fn.all))
