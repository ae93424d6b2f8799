use Rattle.std.proofs.Common.{rules, subst, arith}
use Rattle.std.proofs.lemmas.Result.{err_from_is_err_and}
use Rattle.mr_container.proofs.Tasks.{front_length, tasks_more, tasks_some}
use Rattle.mr_container.proofs.mapper.map_all.Goals as goal

pub returns-in_err-map-clause-err : goal.returns-in_err-map-clause-err
returns-in_err-map-clause-err g c =
    let pairs = g.M.Mapper.task_emissions c.args.mapper.now in
    let e = err_from_is_err_and c.from_residual.result c.from_residual.ensures.1 in
    rw e.1 (λ es h.
    let some = c.in_err-map.ensures.err _ (c.loop-task.invariant.stands es h) in (
      front_length pairs es c.loop-task.task some.0,
      subst (g.L.Local.stands c.map.new.out) (tasks_some pairs es c.loop-task.task some.0 _ (omega arith)) some.1,
    ))

pub loop-task-preserved : goal.loop-task-preserved
loop-task-preserved g c = record {
  stands = λ es h. subst (g.L.Local.stands c.map.new.out) (tasks_more (g.M.Mapper.task_emissions c.args.mapper.now) es c.loop-task.task)
      (c.in_ok-map.ensures.ok _ (c.loop-task.invariant.stands es h));
  origin = search rules;
}
