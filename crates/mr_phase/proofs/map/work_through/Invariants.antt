use Rattle.std.proofs.Common.{◌≡◌, ◌-◌, false, length, flat_map}
use Rattle.std.specs.List.Sorted.{IsPermutation}
use Rattle.mr_phase.specs.Held.{HoldsFor}
use Rattle.mr_phase.specs.Partition.{itself}
use Rattle.mr_phase.proofs.map.work_through.Given as goal

abbrev pub invariant-loop-alloc : goal.invariant-loop-alloc
invariant-loop-alloc g l =
    g.Q.TaskQueues.is_of l.queues l.work.pass
    × (g.Q.TaskQueues.number l.work.pass ≡ g.Q.TaskQueues.number l.fn.work.pass)
    × IsPermutation l.work.tasks.items (g.Q.TaskQueues.given l.work.pass)
    × HoldsFor l.spills g.L.Local.stands (g.M.Mapper.task_emissions l.mapper) l.work.local (flat_map itself l.work.tasks.items)
    × (l.work.starved ≡ false)
    × g.L.Local.same_origin l.fn.work.local.local l.work.local.local

abbrev pub decreases-loop-alloc : goal.decreases-loop-alloc
decreases-loop-alloc g l = g.Q.TaskQueues.total l.queues - length l.work.tasks.items
