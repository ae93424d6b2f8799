use Rattle.std.proofs.Common.{◌≡◌, ◌≤◌, ◌<◌, ℕ, false}
use Rattle.mr_split.specs.Pieces.{boundary_of}
use Rattle.mr_split.proofs.boundary.next_boundary.Given as goal

abbrev pub invariant-loop-place : goal.invariant-loop-place
invariant-loop-place l = (k : ℕ) → l.from ≤ k → k < l.place → boundary_of l.kind l.bytes k ≡ false
