use Rattle.std.proofs.Common.{◌≤◌, length}
use Rattle.mr_phase.proofs.Sorts.{Gathering}
use Rattle.mr_phase.proofs.map.equip.Given as goal

abbrev pub invariant-loop-pass : goal.invariant-loop-pass
invariant-loop-pass g l = Gathering l.fn.passes.items l.fn.locals.items l.passes.items l.locals.items l.works.items
    × (length l.passes.items ≤ l.works.spare) × (length l.works.items ≤ l.passes.spare)

abbrev pub decreases-loop-pass : goal.decreases-loop-pass
decreases-loop-pass g l = length l.passes.items
