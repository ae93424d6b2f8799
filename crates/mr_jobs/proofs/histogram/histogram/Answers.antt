use Rattle.std.proofs.Common.{[], ap, ◌∙◌, subst}
use Rattle.std.specs.Prelude.{slice_index_or}
use Rattle.mr_capacity.specs.declared.jobs.JobKind.TheVariants as kind
use Rattle.mr_grid.specs.Pixels.{bitmap_of}
use Rattle.mr_jobfile.specs.Seen.{seen}
use Rattle.mr_jobs.specs.Jobs.{pixels}
use Rattle.mr_jobs.specs.Outputs.{IsOutputOf}
use Rattle.mr_jobs.specs.Reported.{reported}
use Rattle.mr_jobs.proofs.Inputs.{of_bitmap, of_no_bitmap}
use Rattle.mr_jobs.proofs.Outputs.{of_kind}
use Rattle.mr_jobs.proofs.histogram.histogram.Goals as goal

pub returns-in-Ok : goal.returns-in-Ok
returns-in-Ok g c =
    let j = seen c.args.job.now in
    let workers = reported c.args.workers.now in
    let first = slice_index_or c.args.inputs.now 0 [] in
    let input = c.first_input-input.ensures.input in
    of_kind j workers c.pixels.result c.args.inputs.now kind.Histogram c.requires.kind
    (of_bitmap j workers first 1 (pixels j first) c.in-Ok.bitmap c.pixels.result (c.in-Ok.ensures.bitmap ∙ ap bitmap_of input)
    (subst (λ bytes. IsOutputOf j (pixels j bytes) workers c.pixels.result) input c.pixels.ensures))

pub returns-in_ok-refused_bitmap-in-Err : goal.returns-in_ok-refused_bitmap-in-Err
returns-in_ok-refused_bitmap-in-Err g c =
    let j = seen c.args.job.now in
    let workers = reported c.args.workers.now in
    let first = slice_index_or c.args.inputs.now 0 [] in
    let refusal = c.in_ok-refused_bitmap-in-Err in
    of_kind j workers _ c.args.inputs.now kind.Histogram c.requires.kind
    (of_no_bitmap j workers first 1 (pixels j first) c.in-Err.fault refusal.field-0
    (c.in-Err.ensures.bitmap ∙ ap bitmap_of c.first_input-input.ensures.input) refusal.ensures.status refusal.ensures.line)
