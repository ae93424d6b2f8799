use Rattle.std.proofs.Common.{◌≤◌, length}
use Rattle.mr_phase.proofs.Sorts.{Scattering}
use Rattle.mr_phase.proofs.map.dismiss.Given as goal

abbrev pub invariant-loop-work : goal.invariant-loop-work
invariant-loop-work g l = Scattering l.fn.works.items l.works.items l.passes.items l.hands.items
    × (length l.works.items ≤ l.passes.spare) × (length l.works.items ≤ l.hands.spare)

abbrev pub decreases-loop-work : goal.decreases-loop-work
decreases-loop-work g l = length l.works.items
