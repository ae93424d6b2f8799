use Rattle.std.proofs.Common.{◌∙◌, ap, ◌++◌, ◌∷◌, []}
use Rattle.mr_defs.specs.Commutative.{joined_by}
use Rattle.mr_phase.proofs.Taken.{same_tasks, fewer_left}
use Rattle.mr_phase.proofs.Sharing.{done_more}
use Rattle.mr_phase.proofs.reduce.reduce_through.Goals as goal

pub loop-alloc-smaller : goal.loop-alloc-smaller
loop-alloc-smaller g c =
    let old = c.loop-alloc.work.tasks.items in
    let more = same_tasks old _ _ c.in-Some.part c.loop-alloc.invariant.2 c.in-Some.ensures.some.1 in
    let apart = g.met.Q.TaskQueues.apart c.args.queues.now c.take.new.pass c.in-Some.ensures.same.0 in
    rw (c.push.ensures.items, c.room.ensures.items) (fewer_left _ old _ c.in-Some.part apart more)

pub loop-alloc-preserved : goal.loop-alloc-preserved
loop-alloc-preserved g c =
    let old = c.loop-alloc.work.tasks.items in
    let inv = c.loop-alloc.invariant in
    let fold = g.L.Fold.Combiner in (
      c.in-Some.ensures.same.0,
      c.in-Some.ensures.same.1 ∙ inv.1,
      rw (c.push.ensures.items, c.room.ensures.items) (same_tasks old _ _ c.in-Some.part inv.2 c.in-Some.ensures.some.1),
      done_more g.L.Key.Ord.cmp (λ k. joined_by fold.merged (λ h. g.L.Parted.cell h.local k) c.args.mapped.now)
          (g.L.Parted.part_of c.args.parts) fold.over g.R.Reducer.answer
          c.loop-alloc.work.local.items c.push-in-loop-alloc.new.self.items c.in-Ok.partition old c.push.new.self.items c.in-Some.part
          (c.push-in-loop-alloc.ensures.items ∙ ap (λ l. l ++ c.in-Ok.partition ∷ []) c.room-in-loop-alloc.ensures.items)
          (c.push.ensures.items ∙ ap (λ l. l ++ c.in-Some.part ∷ []) c.room.ensures.items)
          c.in-Ok.ensures.part c.in-Ok.ensures.reduced inv.3,
      inv.4,
    )
