use Rattle.std.proofs.Common.{length, sym, subst}
use Rattle.mr_capacity.specs.Folds.{folded}
use Rattle.mr_items.specs.Pca.{columns, pca_next}
use Rattle.mr_jobfile.specs.Seen.{seen}
use Rattle.mr_jobs.specs.Jobs.{pca_emits}
use Rattle.mr_jobs.specs.Meaning.{span_rounds, two}
use Rattle.mr_jobs.specs.Outputs.{IsOutputOf}
use Rattle.mr_jobs.specs.Reported.{reported}
use Rattle.mr_jobs.proofs.pca.passes.Goals as goal

pub returns : goal.returns
returns g c =
    let j = seen c.args.job.now in
    let grid = c.args.grid.now in
    subst (λ x. IsOutputOf j (span_rounds j (folded x j.reducer) (length grid) (pca_emits grid) (pca_next grid) two columns)
    (reported c.args.workers.now) c.run_rounds.result) (sym c.in-Sum.is)
    (record { ending = c.run_rounds.ensures.ending; of_inputs = c.run_rounds.ensures.of_inputs; shares = c.run_rounds.ensures.shares })
