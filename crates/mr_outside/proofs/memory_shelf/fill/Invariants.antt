use Rattle.std.proofs.Common.{◌≡◌, take}
use Rattle.std.specs.Prelude.{replicate}
use Rattle.mr_outside.proofs.memory_shelf.fill.Given as goal

abbrev pub invariant-loop-b : goal.invariant-loop-b
invariant-loop-b l = take l.b-index l.b-items ≡ replicate l.b-index l.byte
