use Rattle.std.proofs.Common.{◌≡◌, ◌++◌, take}
use Rattle.std.specs.Prelude.{flat_map}
use Rattle.mr_items.specs.Texts.{spaced}
use Rattle.mr_numeric.proofs.cluster_lines.push_coordinates.Given as goal

abbrev pub invariant-loop-coordinate : goal.invariant-loop-coordinate
invariant-loop-coordinate l = l.text ≡ l.initial.text ++ flat_map spaced (take l.coordinate-index l.mean)
