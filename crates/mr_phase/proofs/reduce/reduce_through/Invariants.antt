use Rattle.std.proofs.Common.{◌≡◌, ◌-◌, false, length, flat_map}
use Rattle.std.specs.List.Sorted.{IsPermutation}
use Rattle.mr_defs.specs.Commutative.{joined_by}
use Rattle.mr_phase.specs.Partition.{HaveReduced, itself}
use Rattle.mr_phase.proofs.reduce.reduce_through.Given as goal

abbrev pub invariant-loop-alloc : goal.invariant-loop-alloc
invariant-loop-alloc g l =
    g.Q.TaskQueues.is_of l.queues l.work.pass
    × (g.Q.TaskQueues.number l.work.pass ≡ g.Q.TaskQueues.number l.fn.work.pass)
    × IsPermutation l.work.tasks.items (g.Q.TaskQueues.given l.work.pass)
    × HaveReduced g.L.Key.Ord.cmp (λ k. joined_by g.L.Fold.Combiner.merged (λ h. g.L.Parted.cell h.local k) l.mapped)
    (g.L.Parted.part_of l.parts) g.L.Fold.Combiner.over g.R.Reducer.answer l.work.local (flat_map itself l.work.tasks.items)
    × (l.work.starved ≡ false)

abbrev pub decreases-loop-alloc : goal.decreases-loop-alloc
decreases-loop-alloc g l = g.Q.TaskQueues.total l.queues - length l.work.tasks.items
