use Rattle.mr_jobfile.specs.Ranges.{has_means}
use Rattle.mr_jobfile.specs.Seen.{seen}
use Rattle.mr_jobs.proofs.Printing.{few_reported, printable}
use Rattle.mr_jobs.proofs.run_job.Goals as goal
use Rattle.mr_jobs.specs.Reported.{reported}

pub returns-clause-printable : goal.returns-clause-printable
returns-clause-printable g c = printable (seen c.args.job.now) c.args.inputs.now (reported c.args.workers.now)
    (has_means c.args.job.now.job) (few_reported c.args.workers.now c.args.workers.now.few) c.args.job.now.rounds_in_range
    c.output_of.result c.output_of.ensures.shares
