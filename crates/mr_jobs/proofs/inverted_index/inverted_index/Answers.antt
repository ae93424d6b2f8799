use Rattle.mr_capacity.specs.declared.jobs.JobKind.TheVariants as kind
use Rattle.mr_items.specs.InvertedIndex.{inverted_index_emits}
use Rattle.mr_items.specs.Texts.{rows_text}
use Rattle.mr_jobfile.specs.Seen.{seen}
use Rattle.mr_jobs.proofs.Outputs.{bytes_output, of_kind}
use Rattle.mr_jobs.specs.Reported.{reported}
use Rattle.mr_split.specs.declared.boundary.Boundary.{Boundary}
use Rattle.mr_jobs.proofs.inverted_index.inverted_index.Goals as goal

pub returns : goal.returns
returns g c =
    let j = seen c.args.job.now in
    let workers = reported c.args.workers.now in
    of_kind j workers c.rows_output.result c.args.inputs.now kind.InvertedIndex c.requires.kind
    (bytes_output j workers c.rows_output.result (rows_text (λ key. key)) Boundary.Line inverted_index_emits _ _ c.placed.result _ _ _
    c.in_ok-pieces.ensures.exact c.first_input-input.ensures.input c.new-mapper.ensures.count c.new-mapper.ensures.tasks
    c.new-mapper.ensures.whole c.placed.ensures c.rows_output.ensures)
