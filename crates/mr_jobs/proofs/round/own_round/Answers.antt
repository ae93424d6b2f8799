use Rattle.std.proofs.Common.{subst}
use Rattle.std.specs.Ordering.{nat_cmp}
use Rattle.mr_jobs.specs.Meaning.{inside_of, is_shared}
use Rattle.mr_jobs.specs.Reported.{reported}
use Rattle.mr_jobs.specs.RoundOf.{IsRoundOfTasks}
use Rattle.mr_jobs.proofs.round.own_round.Goals as goal

pub returns : goal.returns
returns g c =
    let j = c.args.job.now in
    let m = c.args.mapper.now in
    subst (λ fold. IsRoundOfTasks nat_cmp (inside_of j.container j.capacity) (is_shared j.container) fold (reported c.args.workers.now)
    (g.M.Mapper.task_count m) (g.M.Mapper.task_emissions m) c.number_round.result) c.requires.fold c.number_round.ensures
