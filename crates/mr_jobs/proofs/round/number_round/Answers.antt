use Rattle.std.proofs.Common.{sym, subst}
use Rattle.std.specs.Ordering.{nat_cmp}
use Rattle.mr_jobs.specs.Meaning.{inside_of, is_shared}
use Rattle.mr_jobs.specs.Reported.{reported}
use Rattle.mr_jobs.specs.RoundOf.{IsRoundOfTasks}
use Rattle.mr_jobs.proofs.round.number_round.Goals as goal

pub returns-in-Hash : goal.returns-in-Hash
returns-in-Hash g c =
    let m = c.args.mapper.now in
    subst (λ kind. IsRoundOfTasks nat_cmp (inside_of kind c.args.job.now.capacity)
    (is_shared kind) g.R.Reducer.folded (reported c.args.workers.now)
    (g.M.Mapper.task_count m) (g.M.Mapper.task_emissions m) c.hash_round.result) (sym c.in-Hash.is) c.hash_round.ensures

pub returns-in-Array : goal.returns-in-Array
returns-in-Array g c =
    let m = c.args.mapper.now in
    subst (λ kind. IsRoundOfTasks nat_cmp (inside_of kind c.args.job.now.capacity)
    (is_shared kind) g.R.Reducer.folded (reported c.args.workers.now)
    (g.M.Mapper.task_count m) (g.M.Mapper.task_emissions m) c.array_round.result) (sym c.in-Array.is) c.array_round.ensures
