use Rattle.mr_jobs.specs.Meaning.{inside_of}
use Rattle.mr_jobs.proofs.rounds.step.Goals as goal

pub sequel-requires-clause-rows : goal.sequel-requires-clause-rows
sequel-requires-clause-rows g c = (
  inside_of c.args.job.now.container c.args.job.now.capacity,
  c.in-Ok.ensures.rows c.in_ok-rows-in-Ok.rows
      (record { all = c.in_ok-rows-in-Ok.ensures.all; ascend = c.in_ok-rows-in-Ok.ensures.ascends }),
)
