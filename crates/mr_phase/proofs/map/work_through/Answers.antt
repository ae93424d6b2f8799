use Rattle.std.proofs.Common.{◌∙◌, subst, flat_map, []}
use Rattle.std.proofs.lemmas.List.{flat_map_more}
use Rattle.mr_phase.specs.Held.{HoldsFor}
use Rattle.mr_phase.specs.Partition.{itself}
use Rattle.mr_phase.proofs.Taken.{same_tasks, fewer_left}
use Rattle.mr_phase.proofs.map.work_through.Goals as goal

pub loop-alloc-smaller : goal.loop-alloc-smaller
loop-alloc-smaller g c =
    let old = c.loop-alloc.work.tasks.items in
    let more = same_tasks old _ _ c.in-Some.task c.loop-alloc.invariant.2 c.in-Some.ensures.some.1 in
    let apart = g.met.Q.TaskQueues.apart c.args.queues.now c.take.new.pass c.in-Some.ensures.same.0 in
    rw (c.push.ensures.items, c.room.ensures.items) (fewer_left _ old _ c.in-Some.task apart more)

pub loop-alloc-preserved : goal.loop-alloc-preserved
loop-alloc-preserved g c =
    let old = c.loop-alloc.work.tasks.items in
    let emits = g.M.Mapper.task_emissions c.args.mapper.now in
    let some = c.in-Some.ensures.some in
    let inv = c.loop-alloc.invariant in (
      c.in-Some.ensures.same.0,
      c.in-Some.ensures.same.1 ∙ inv.1,
      rw (c.push.ensures.items, c.room.ensures.items) (same_tasks old _ _ c.in-Some.task inv.2 some.1),
      rw (c.push.ensures.items, c.room.ensures.items)
          (subst (HoldsFor c.args.spills g.L.Local.stands emits c.map.new.self) (flat_map_more itself [] old c.in-Some.task)
          (c.in-Ok.ensures.ok (flat_map itself old) inv.3)),
      inv.4,
      g.met.L.Local.origin_trans _ _ _ inv.5 c.in-Ok.ensures.origin,
    )
