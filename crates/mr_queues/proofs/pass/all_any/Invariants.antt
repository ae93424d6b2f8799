use Rattle.std.proofs.Common.{◌≤◌, length}
use Rattle.mr_queues.proofs.Rooming.{SoFar}
use Rattle.mr_queues.proofs.pass.all_any.Given as goal

abbrev pub invariant-loop-pass : goal.invariant-loop-pass
invariant-loop-pass g l = record {
  so_far : SoFar g.P.Kind.any l.count l.fn.passes.items l.all.items l.passes.items l.room;
  room : length l.passes.items ≤ l.all.spare;
}

abbrev pub decreases-loop-pass : goal.decreases-loop-pass
decreases-loop-pass g l = length l.passes.items
