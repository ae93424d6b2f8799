use Rattle.std.proofs.Common.{◌≡◌, ◌≤◌, ◌*◌}
use Rattle.mr_numeric.proofs.Distances.{distance_to}
use Rattle.mr_numeric.proofs.distance.short_distance.Given as goal

abbrev pub invariant-loop-at : goal.invariant-loop-at
invariant-loop-at l = record { few : l.sum ≤ l.at * 18014397972611076; so_far : l.sum ≡ distance_to l.point l.mean l.at }
