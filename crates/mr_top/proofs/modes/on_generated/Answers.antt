use Rattle.std.proofs.Common.{IfOk, [], ◌∷◌, subst}
use Rattle.mr_jobfile.specs.Seen.{seen}
use Rattle.mr_jobs.specs.Jobs.{IsLawfulReport}
use Rattle.mr_jobs.specs.Reported.{reported}
use Rattle.mr_report.specs.Shown.{rounds_seen}
use Rattle.mr_top.proofs.modes.on_generated.Goals as goal

pub returns-clause-shares : goal.returns-clause-shares
returns-clause-shares g c =
    subst (λ text. IfOk c.run_generated.result
    (λ o. IsLawfulReport (seen c.args.job.now) (text ∷ []) (reported c.args.workers.now) (rounds_seen o.rounds.items)))
    c.in_ok-text.ensures.text c.run_generated.ensures.shares
