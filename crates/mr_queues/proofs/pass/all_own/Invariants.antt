use Rattle.std.proofs.Common.{◌≡◌, ◌≤◌, length}
use Rattle.std.specs.Prelude.{filter_map}
use Rattle.mr_queues.proofs.Rooming.{own_of}
use Rattle.mr_queues.proofs.Turned.{given_so_far}
use Rattle.mr_queues.proofs.pass.all_own.Given as goal

abbrev pub invariant-loop-pass : goal.invariant-loop-pass
invariant-loop-pass g l = record {
  so_far : given_so_far (own_of g.P.Kind.within) l.all.items l.passes.items ≡ filter_map (own_of g.P.Kind.within) l.fn.passes.items;
  room : length l.passes.items ≤ l.all.spare;
}

abbrev pub decreases-loop-pass : goal.decreases-loop-pass
decreases-loop-pass g l = length l.passes.items
