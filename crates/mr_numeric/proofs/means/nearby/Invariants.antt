use Rattle.std.proofs.Common.{◌≡◌, ◌≤◌, nat_abs, take}
use Rattle.std.specs.List.{All}
use Rattle.mr_defs.specs.Limits.{greatest_element}
use Rattle.mr_numeric.proofs.means.nearby.Given as goal

abbrev pub invariant-loop-coordinate : goal.invariant-loop-coordinate
invariant-loop-coordinate l = All (λ z. nat_abs z ≤ greatest_element) l.coordinates → l.near.items ≡ take l.coordinate-index l.coordinates
