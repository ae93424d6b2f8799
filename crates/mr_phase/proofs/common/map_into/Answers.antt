use Rattle.std.proofs.Common.{refl, sym, ◌∙◌}
use Rattle.mr_phase.proofs.CommonEnd.{left_by, over_each}
use Rattle.mr_phase.proofs.common.map_into.Goals as goal

pub returns : goal.returns
returns g c =
    let array = c.args.array.now in
    let phase = c.in_ok-mapped.ensures in
    let locals = c.in_ok-locals.ensures in
    let long = phase.count refl ∙ sym (locals.count ∙ c.requires.own.2 ∙ c.requires.passes.0.0) in
    left_by array (g.Q.TaskQueues.count c.args.queues) (g.M.Mapper.task_count c.args.mapper.now)
    (g.M.Mapper.task_emissions c.args.mapper.now) c.in_ok-mapped.mapped c.leave_all.result
    (phase.count refl) phase.once (over_each array c.in_ok-locals.locals.items c.in_ok-mapped.mapped long locals.over (phase.origin refl)) phase.stands
    c.leave_all.ensures.hands c.leave_all.ensures.passes c.leave_all.ensures.faults
