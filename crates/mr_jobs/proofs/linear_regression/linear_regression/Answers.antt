use Rattle.std.proofs.Common.{ap}
use Rattle.mr_capacity.specs.declared.jobs.JobKind.TheVariants as kind
use Rattle.mr_jobfile.specs.Seen.{seen}
use Rattle.mr_jobs.specs.Jobs.{regression, first_grid, gridded}
use Rattle.mr_jobs.specs.Reported.{reported}
use Rattle.mr_jobs.proofs.Inputs.{of_input, of_stopped}
use Rattle.mr_jobs.proofs.Outputs.{of_kind}
use Rattle.mr_jobs.proofs.linear_regression.linear_regression.Goals as goal

pub returns-in-Ok : goal.returns-in-Ok
returns-in-Ok g c =
    let j = seen c.args.job.now in
    let workers = reported c.args.workers.now in
    of_kind j workers c.line_through.result c.args.inputs.now kind.LinearRegression c.requires.kind
    (of_input j workers (first_grid j c.args.inputs.now) (regression j) _ c.line_through.result (ap (gridded 1) c.in-Ok.ensures.read)
    c.line_through.ensures)

pub returns-in-Err : goal.returns-in-Err
returns-in-Err g c =
    let j = seen c.args.job.now in
    let workers = reported c.args.workers.now in
    of_kind j workers _ c.args.inputs.now kind.LinearRegression c.requires.kind
    (of_stopped j workers (λ grid. grid) (first_grid j c.args.inputs.now) (regression j) c.in-Err.stop c.in-Err.ensures.grid
    c.in-Err.ensures.of_inputs)
