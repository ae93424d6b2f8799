use Rattle.std.proofs.Common.{◌≡◌, drop}
use Rattle.mr_grid.proofs.Weights.{so_far}
use Rattle.mr_grid.proofs.field.digits_together.Given as goal

abbrev pub invariant-loop-i : goal.invariant-loop-i
invariant-loop-i l = l.value ≡ so_far (drop l.at l.bytes) l.count l.i
