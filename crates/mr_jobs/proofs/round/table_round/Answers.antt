use Rattle.std.proofs.Common.{false, subst}
use Rattle.mr_items.specs.Keys.{all_inside}
use Rattle.mr_jobs.specs.Reported.{reported}
use Rattle.mr_jobs.specs.RoundOf.{IsRoundOfTasks}
use Rattle.mr_jobs.proofs.round.table_round.Goals as goal

pub returns : goal.returns
returns g c =
    let m = c.args.mapper.now in
    subst (λ fold. IsRoundOfTasks g.M.Key.Ord.cmp all_inside false fold (reported c.args.workers.now) (g.M.Mapper.task_count m)
    (g.M.Mapper.task_emissions m) c.hash_round.result) c.requires.fold c.hash_round.ensures
