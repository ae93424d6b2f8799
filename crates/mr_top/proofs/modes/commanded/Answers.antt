use Rattle.std.proofs.Common.{ℕ, List, Ok, refl, subst}
use Rattle.mr_command.specs.Asked.{asked}
use Rattle.mr_command.specs.declared.command.Mode.TheVariants as mode
use Rattle.mr_jobfile.specs.Seen.{seen}
use Rattle.mr_jobs.specs.Jobs.{IsLawfulReport}
use Rattle.mr_report.specs.Shown.{rounds_seen}
use Rattle.mr_top.specs.Reports.{IsOfJobReport, Reports, inputs_by}
use Rattle.mr_top.specs.RunEnding.{job_at}
use Rattle.mr_top.specs.Stages.{ComesTo}
use Rattle.mr_top.proofs.Reporting.{command_reports, reports_given, run_reports}
use Rattle.mr_top.proofs.Stages.{given_comes}
use Rattle.mr_top.proofs.modes.commanded.Goals as goal

pub returns-in-Run-clause-report : goal.returns-in-Run-clause-report
returns-in-Run-clause-report g c =
    run_reports (g.H.Shelf.contents c.args.shelf.now) (asked c.args.command.now)
    (seen c.in_ok-job.job) _ _ _ _ c.ran.result c.in_ok-job.ensures.kept c.in-Run.is c.as_str.ensures c.deref.ensures.value
    c.requires.workers
    c.in_ok-job.ensures.ok c.ran.ensures.report

pub returns-clause-report : goal.returns-clause-report
returns-clause-report g c =
    let j = seen c.in_ok-job.job in
    let f = asked c.args.command.now in
    let contents = g.H.Shelf.contents c.args.shelf.now in
    let m = mode.Generate c.in-Generate.seed c.in-Generate.count in
    command_reports contents f j m refl c.in-Generate.is
    (subst (λ name. ComesTo contents (job_at name) (Ok j)) c.as_str.ensures c.in_ok-job.ensures.ok) _
    (subst (λ n. Reports f.report (IsOfJobReport contents m f.inputs j n) c.in_ok-finished_job-in-Generate.field-0.report)
    c.requires.workers
    (reports_given f.report c.args.workers.now.reports c.args.workers.now.count
    (λ workers rounds. (inputs : List (List ℕ)) × ComesTo contents (inputs_by m f.inputs j) (Ok inputs)
    × IsLawfulReport j inputs workers rounds)
    (rounds_seen c.in_ok-output-in-Generate.output.rounds.items) _ c.requires.reports c.in_ok-finished_job-in-Generate.ensures.report
    (_, given_comes _ _ _ refl, c.in_ok-output-in-Generate.ensures.shares)))
