use Rattle.std.proofs.Common.{false, subst}
use Rattle.std.specs.Ordering.{nat_cmp}
use Rattle.mr_items.specs.Keys.{below}
use Rattle.mr_jobs.specs.Reported.{reported}
use Rattle.mr_jobs.specs.RoundOf.{IsRoundOfTasks}
use Rattle.mr_jobs.proofs.round.array_round.Goals as goal

pub returns : goal.returns
returns g c =
    let m = c.args.mapper.now in
    subst (λ n. IsRoundOfTasks nat_cmp (below n) false g.R.Reducer.folded (reported c.args.workers.now) (g.M.Mapper.task_count m)
    (g.M.Mapper.task_emissions m) c.in_array.result) c.size_of.ensures.same c.in_array.ensures
