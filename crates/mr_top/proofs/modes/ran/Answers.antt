use Rattle.std.proofs.Common.{ℕ, List, Ok}
use Rattle.mr_command.specs.declared.command.Mode.TheVariants as mode
use Rattle.mr_jobfile.specs.Seen.{seen}
use Rattle.mr_jobs.specs.Jobs.{IsLawfulReport}
use Rattle.mr_report.specs.Shown.{rounds_seen}
use Rattle.mr_top.specs.Reports.{inputs_by}
use Rattle.mr_top.specs.Stages.{ComesTo}
use Rattle.mr_top.proofs.Reporting.{reports_given}
use Rattle.mr_top.proofs.modes.ran.Goals as goal

pub returns-clause-report : goal.returns-clause-report
returns-clause-report g c =
    let j = seen c.args.job.now in
    let contents = g.H.Shelf.contents c.args.shelf.now in
    reports_given c.args.asked c.args.workers.now.reports c.args.workers.now.count
    (λ workers rounds. (inputs : List (List ℕ)) × ComesTo contents (inputs_by mode.Run c.args.names.now j) (Ok inputs)
    × IsLawfulReport j inputs workers rounds) (rounds_seen c.in_ok-output.output.rounds.items) _ c.requires.reports c.in_ok-finished.ensures.report
    (_, c.in_ok-inputs.ensures.ok, c.in_ok-output.ensures.shares)
