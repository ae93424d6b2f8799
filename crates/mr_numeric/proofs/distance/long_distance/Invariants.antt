use Rattle.std.proofs.Common.{◌≡◌, ◌≤◌, ◌*◌}
use Rattle.mr_numeric.proofs.Distances.{distance_to}
use Rattle.mr_numeric.proofs.distance.long_distance.Given as goal

abbrev pub invariant-loop-at : goal.invariant-loop-at
invariant-loop-at l = record { few : l.sum ≤ l.at * 18446744073709551615; so_far : l.sum ≡ distance_to l.point l.mean l.at }
