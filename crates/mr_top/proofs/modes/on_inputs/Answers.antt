use Rattle.std.proofs.Common.{IfOk, subst}
use Rattle.mr_jobfile.specs.Seen.{seen}
use Rattle.mr_jobs.specs.Jobs.{IsLawfulReport, job_ending}
use Rattle.mr_jobs.specs.Meets.{MeetsSeen}
use Rattle.mr_jobs.specs.Reported.{reported}
use Rattle.mr_report.specs.Shown.{rounds_seen}
use Rattle.mr_top.proofs.modes.on_inputs.Goals as goal

pub returns-clause-ending : goal.returns-clause-ending
returns-clause-ending g c =
    subst (λ inputs. MeetsSeen (λ o. o.text)
    (job_ending (seen c.args.job.now) inputs) c.run_job.result) c.deref.ensures.value c.run_job.ensures.ending

pub returns-clause-shares : goal.returns-clause-shares
returns-clause-shares g c =
    subst (λ inputs. IfOk c.run_job.result
    (λ o. IsLawfulReport (seen c.args.job.now) inputs (reported c.args.workers.now) (rounds_seen o.rounds.items)))
    c.deref.ensures.value c.run_job.ensures.shares
