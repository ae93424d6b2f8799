use Rattle.std.proofs.Common.{subst, sym}
use Rattle.std.specs.Ordering.{nat_cmp}
use Rattle.mr_capacity.specs.Folds.{folded}
use Rattle.mr_capacity.specs.declared.kinds.ContainerKind.TheVariants as container
use Rattle.mr_jobs.specs.Meaning.{inside_of, is_shared}
use Rattle.mr_jobs.specs.Reported.{reported}
use Rattle.mr_jobs.specs.RoundOf.{IsRoundOfTasks}
use Rattle.mr_jobs.proofs.shared.once_round.Goals as goal

pub returns : goal.returns
returns g c =
    let j = c.args.job.now in
    let m = c.args.mapper.now in
    let workers = reported c.args.workers.now in
    subst (λ kind. IsRoundOfTasks nat_cmp (inside_of kind j.capacity) (is_shared kind) (folded j.combiner j.reducer) workers
    (g.M.Mapper.task_count m) (g.M.Mapper.task_emissions m) c.common_round.result) (sym c.requires.shared)
    (subst (λ combiner. IsRoundOfTasks nat_cmp (inside_of container.Common j.capacity) (is_shared container.Common)
    (folded combiner j.reducer) workers (g.M.Mapper.task_count m) (g.M.Mapper.task_emissions m) c.common_round.result)
    (sym c.requires.once) c.common_round.ensures)
