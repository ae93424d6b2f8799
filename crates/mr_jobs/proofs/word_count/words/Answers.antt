use Rattle.std.proofs.Common.{refl}
use Rattle.mr_items.specs.WordCount.{word_count_emits}
use Rattle.mr_jobfile.specs.Seen.{seen}
use Rattle.mr_jobs.specs.Generated.{written_text}
use Rattle.mr_jobs.specs.Reported.{reported}
use Rattle.mr_jobs.proofs.Outputs.{bytes_output}
use Rattle.mr_split.specs.declared.boundary.Boundary.{Boundary}
use Rattle.mr_jobs.proofs.word_count.words.Goals as goal

pub returns : goal.returns
returns g c = bytes_output (seen c.args.job.now) (reported c.args.workers.now) c.written_output.result
    (written_text c.args.written (λ key. key)) Boundary.Word word_count_emits _ _ c.counted.result _ _ _ c.in_ok-pieces.ensures.exact refl
    c.new-mapper.ensures.count c.new-mapper.ensures.tasks c.new-mapper.ensures.whole c.counted.ensures c.written_output.ensures
