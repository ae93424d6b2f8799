use Rattle.std.proofs.Common.{subst, ap}
use Rattle.mr_capacity.specs.declared.jobs.JobKind.TheVariants as kind
use Rattle.mr_jobfile.specs.Seen.{seen}
use Rattle.mr_jobs.specs.Jobs.{passes, first_grid, gridded}
use Rattle.mr_jobs.specs.Reported.{reported}
use Rattle.mr_jobs.proofs.Inputs.{of_input, of_stopped}
use Rattle.mr_jobs.proofs.Outputs.{of_kind}
use Rattle.mr_jobs.proofs.Grids.{dense_even}
use Rattle.mr_numeric.specs.Grids.{IsEven}
use Rattle.mr_jobs.proofs.pca.pca.Goals as goal

pub passes-requires-clause-even : goal.passes-requires-clause-even
passes-requires-clause-even g c κs within =
    subst IsEven c.grid.view_is (dense_even c.grid.inside.numbers.items c.grid.inside.columns c.grid.inside.rows c.grid.invariant)

pub returns-in-Ok : goal.returns-in-Ok
returns-in-Ok g c =
    let j = seen c.args.job.now in
    let workers = reported c.args.workers.now in
    of_kind j workers c.passes.result c.args.inputs.now kind.Pca c.requires.kind
    (of_input j workers (first_grid j c.args.inputs.now) (passes j) _ c.passes.result (ap (gridded 1) c.in-Ok.ensures.read)
    c.passes.ensures)

pub returns-in-Err : goal.returns-in-Err
returns-in-Err g c =
    let j = seen c.args.job.now in
    let workers = reported c.args.workers.now in
    of_kind j workers _ c.args.inputs.now kind.Pca c.requires.kind
    (of_stopped j workers (λ grid. grid) (first_grid j c.args.inputs.now) (passes j) c.in-Err.stop c.in-Err.ensures.grid
    c.in-Err.ensures.of_inputs)
