use Rattle.std.proofs.Common.{[], ◌∷◌}
use Rattle.mr_jobfile.specs.Ranges.{has_means}
use Rattle.mr_jobfile.specs.Seen.{seen}
use Rattle.mr_jobs.specs.Reported.{reported}
use Rattle.mr_jobs.proofs.GeneratedRows.{of_rows, summed_rows}
use Rattle.mr_jobs.proofs.Printing.{few_reported, printable}
use Rattle.mr_jobs.proofs.word_count.run_generated.Goals as goal

pub returns-clause-ending : goal.returns-clause-ending
returns-clause-ending g c = (summed_rows (seen c.args.job.now) (reported c.args.workers.now) c.words.result _ _ c.as_bytes-input.ensures
    c.words.ensures).ending

pub returns-clause-shares : goal.returns-clause-shares
returns-clause-shares g c = of_rows (seen c.args.job.now) (reported c.args.workers.now) c.words.result c.args.text.now c.requires.kind
    (summed_rows (seen c.args.job.now) (reported c.args.workers.now) c.words.result _ _ c.as_bytes-input.ensures c.words.ensures)

pub returns-clause-printable : goal.returns-clause-printable
returns-clause-printable g c = printable (seen c.args.job.now) (c.args.text.now ∷ []) (reported c.args.workers.now)
    (has_means c.args.job.now.job) (few_reported c.args.workers.now c.args.workers.now.few) c.args.job.now.rounds_in_range
    c.words.result (returns-clause-shares g c)
