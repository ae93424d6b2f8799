use Rattle.std.proofs.Common.{subst}
use Rattle.mr_capacity.specs.declared.jobs.JobKind.TheVariants as kind
use Rattle.mr_jobfile.specs.Seen.{seen}
use Rattle.mr_jobs.specs.Generated.{counted_words}
use Rattle.mr_jobs.specs.Outputs.{IsOutputOf}
use Rattle.mr_jobs.specs.Reported.{reported}
use Rattle.mr_jobs.specs.declared.output.Written.TheVariants as written
use Rattle.mr_jobs.proofs.Outputs.{of_kind}
use Rattle.mr_jobs.proofs.word_count.word_count.Goals as goal

pub returns : goal.returns
returns g c =
    let j = seen c.args.job.now in
    let workers = reported c.args.workers.now in
    of_kind j workers c.words.result c.args.inputs.now kind.WordCount c.requires.kind
    (subst (λ bytes. IsOutputOf j (counted_words j written.Rows bytes) workers c.words.result) c.first_input.ensures.input c.words.ensures)
