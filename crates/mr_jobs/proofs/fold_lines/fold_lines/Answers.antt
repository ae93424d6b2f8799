use Rattle.std.proofs.Common.{[], subst, sym}
use Rattle.std.specs.Prelude.{slice_index_or}
use Rattle.mr_capacity.specs.declared.jobs.JobKind.TheVariants as kind
use Rattle.mr_items.specs.FoldLines.{bytes_key, number_key, fold_lines_emits}
use Rattle.mr_items.specs.Texts.{rows_text}
use Rattle.mr_jobfile.specs.Seen.{seen}
use Rattle.mr_jobs.specs.Jobs.{folded_lines}
use Rattle.mr_jobs.specs.Outputs.{IsOutputOf}
use Rattle.mr_jobs.specs.Reported.{reported}
use Rattle.mr_jobs.proofs.Outputs.{bytes_output, numbers_output, of_kind}
use Rattle.mr_split.specs.declared.boundary.Boundary.{Boundary}
use Rattle.mr_jobs.proofs.fold_lines.fold_lines.Goals as goal

pub returns-in-Bytes : goal.returns-in-Bytes
returns-in-Bytes g c =
    let j = seen c.args.job.now in
    let workers = reported c.args.workers.now in
    let inputs = c.args.inputs.now in
    let result = c.rows_output.result in
    of_kind j workers result inputs kind.FoldLines c.requires.kind
    (subst (λ keys. IsOutputOf j (folded_lines j keys (slice_index_or inputs 0 [])) workers result) (sym c.in-Bytes.is)
    (bytes_output j workers result (rows_text (λ key. key)) Boundary.Line (fold_lines_emits bytes_key) _ _ c.byte_rows.result _ _ _
    c.in_ok-pieces.ensures.exact c.first_input-input.ensures.input c.new-bytes.ensures.count c.new-bytes.ensures.tasks
    c.new-bytes.ensures.whole c.byte_rows.ensures c.rows_output.ensures))

pub returns : goal.returns
returns g c =
    let j = seen c.args.job.now in
    let workers = reported c.args.workers.now in
    let inputs = c.args.inputs.now in
    let result = c.rows_output-in-Numbers.result in
    of_kind j workers result inputs kind.FoldLines c.requires.kind
    (subst (λ keys. IsOutputOf j (folded_lines j keys (slice_index_or inputs 0 [])) workers result) (sym c.in-Numbers.is)
    (numbers_output j workers result Boundary.Line (fold_lines_emits number_key) _ _ c.number_rows.result _ _ _
    c.in_ok-pieces.ensures.exact c.first_input-input.ensures.input c.new-numbers.ensures.count c.new-numbers.ensures.tasks
    c.new-numbers.ensures.whole c.number_rows.ensures c.rows_output-in-Numbers.ensures))
