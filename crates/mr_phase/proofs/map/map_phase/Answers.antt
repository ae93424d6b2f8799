use Rattle.std.proofs.Common.{subst, flat_map}
use Rattle.std.specs.List.{range_with_len}
use Rattle.std.specs.List.Sorted.{IsPermutation}
use Rattle.mr_phase.proofs.Held.{all_stand, closed, count_held, fresh_helds, once_held, origin_held}
use Rattle.mr_phase.proofs.map.map_phase.Goals as goal

pub run_all-requires-clause-fresh : goal.run_all-requires-clause-fresh
run_all-requires-clause-fresh g c lifetimes lives =
    let q = g.Q.TaskQueues in
    fresh_helds c.args.spills g.L.Local.stands (g.M.Mapper.task_emissions c.args.mapper.now) (q.is_of c.args.queues) q.number q.given q.ended
    (q.count c.args.queues) c.args.passes.items c.args.locals.items c.in_ok-helds.helds.items c.in_ok-works.works.items
    c.requires.passes.0 c.requires.passes.1 c.requires.locals.0 c.requires.locals.1 c.in_ok-helds.ensures.locals
    c.in_ok-helds.ensures.new c.in_ok-works.ensures.all

pub finish-requires-clause-all : goal.finish-requires-clause-all
finish-requires-clause-all g c =
    let q = g.Q.TaskQueues in
    (closed c.args.spills g.L.Local.stands (g.M.Mapper.task_emissions c.args.mapper.now) (q.is_of c.args.queues) q.number q.given q.ended
    g.L.Local.same_origin (q.count c.args.queues) c.args.passes.items c.args.locals.items c.in_ok-helds.helds.items
    c.in_ok-works.works.items c.run_all.new.works.items c.in_ok-passes.passes.items c.in_ok-passes.workers.items
    c.requires.passes.0 c.in_ok-works.ensures.all c.run_all.ensures.len c.run_all.ensures.done c.in_ok-passes.ensures
    c.requires.locals.0 c.in_ok-helds.ensures.locals).0

pub finish-requires-clause-ended : goal.finish-requires-clause-ended
finish-requires-clause-ended g c =
    let q = g.Q.TaskQueues in
    (closed c.args.spills g.L.Local.stands (g.M.Mapper.task_emissions c.args.mapper.now) (q.is_of c.args.queues) q.number q.given q.ended
    g.L.Local.same_origin (q.count c.args.queues) c.args.passes.items c.args.locals.items c.in_ok-helds.helds.items
    c.in_ok-works.works.items c.run_all.new.works.items c.in_ok-passes.passes.items c.in_ok-passes.workers.items
    c.requires.passes.0 c.in_ok-works.ensures.all c.run_all.ensures.len c.run_all.ensures.done c.in_ok-passes.ensures
    c.requires.locals.0 c.in_ok-helds.ensures.locals).1

pub returns-clause-count : goal.returns-clause-count
returns-clause-count g c =
    let q = g.Q.TaskQueues in
    count_held c.args.spills g.L.Local.stands (g.M.Mapper.task_emissions c.args.mapper.now) (q.is_of c.args.queues) q.number q.given q.ended
    g.L.Local.same_origin (q.count c.args.queues) c.args.passes.items c.args.locals.items c.in_ok-helds.helds.items
    c.in_ok-works.works.items c.run_all.new.works.items c.in_ok-passes.passes.items c.in_ok-passes.workers.items
    c.requires.passes.0 c.in_ok-works.ensures.all c.run_all.ensures.len c.run_all.ensures.done c.in_ok-passes.ensures
    c.requires.locals.0 c.in_ok-helds.ensures.locals
    c.in_ok-hands.hands.items c.in_ok-hands.ensures

pub returns-clause-stands : goal.returns-clause-stands
returns-clause-stands g c =
    let q = g.Q.TaskQueues in
    all_stand c.args.spills g.L.Local.stands (g.M.Mapper.task_emissions c.args.mapper.now) (q.is_of c.args.queues) q.number q.given q.ended
    g.L.Local.same_origin (q.count c.args.queues) c.args.passes.items c.args.locals.items c.in_ok-helds.helds.items
    c.in_ok-works.works.items c.run_all.new.works.items c.in_ok-passes.passes.items c.in_ok-passes.workers.items
    c.requires.passes.0 c.in_ok-works.ensures.all c.run_all.ensures.len c.run_all.ensures.done c.in_ok-passes.ensures
    c.requires.locals.0 c.in_ok-helds.ensures.locals
    c.in_ok-hands.hands.items c.in_ok-hands.ensures

pub returns-clause-origin : goal.returns-clause-origin
returns-clause-origin g c =
    let q = g.Q.TaskQueues in
    origin_held c.args.spills g.L.Local.stands (g.M.Mapper.task_emissions c.args.mapper.now) (q.is_of c.args.queues) q.number q.given q.ended
    g.L.Local.same_origin (q.count c.args.queues) c.args.passes.items c.args.locals.items c.in_ok-helds.helds.items
    c.in_ok-works.works.items c.run_all.new.works.items c.in_ok-passes.passes.items c.in_ok-passes.workers.items
    c.requires.passes.0 c.in_ok-works.ensures.all c.run_all.ensures.len c.run_all.ensures.done c.in_ok-passes.ensures
    c.requires.locals.0 c.in_ok-helds.ensures.locals
    c.in_ok-hands.hands.items c.in_ok-hands.ensures

pub returns-clause-once : goal.returns-clause-once
returns-clause-once g c =
    let q = g.Q.TaskQueues in
    let hands = flat_map (λ h. h.tasks.items) c.in_ok-hands.hands.items in
    subst (λ n. IsPermutation (range_with_len 0 n) hands) c.requires.total
    (once_held c.args.spills g.L.Local.stands (g.M.Mapper.task_emissions c.args.mapper.now) (q.is_of c.args.queues) q.number q.given q.ended
    g.L.Local.same_origin (q.count c.args.queues) c.args.passes.items c.args.locals.items c.in_ok-helds.helds.items
    c.in_ok-works.works.items c.run_all.new.works.items c.in_ok-passes.passes.items c.in_ok-passes.workers.items
    c.requires.passes.0 c.in_ok-works.ensures.all c.run_all.ensures.len c.run_all.ensures.done c.in_ok-passes.ensures
    c.requires.locals.0 c.in_ok-helds.ensures.locals
    c.in_ok-hands.hands.items c.in_ok-hands.ensures (range_with_len 0 (q.total c.args.queues)) c.finish.ensures)
