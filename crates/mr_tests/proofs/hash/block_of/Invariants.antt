use Rattle.std.proofs.Common.{◌≢◌, negsuc}
use Rattle.std.specs.List.{All}
use Rattle.mr_tests.proofs.hash.block_of.Given as goal

abbrev pub invariant-loop-nth : goal.invariant-loop-nth
invariant-loop-nth g l = All (λ p. g.K.Key.allowed p.0 × (p.1 ≢ negsuc 9223372036854775807)) l.block.items
