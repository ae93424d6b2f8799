use Rattle.std.proofs.Common.{ap, sym, ◌∙◌}
use Rattle.std.specs.Prelude.{decimal}
use Rattle.mr_defs.specs.Tasks.{spans_of}
use Rattle.mr_items.specs.Bitmap.{pixel_rows}
use Rattle.mr_items.specs.Histogram.{histogram_emits}
use Rattle.mr_items.specs.Texts.{rows_text}
use Rattle.mr_jobfile.specs.Seen.{seen}
use Rattle.mr_jobs.specs.Reported.{reported}
use Rattle.mr_jobs.proofs.Inputs.{rows_of_bitmap}
use Rattle.mr_jobs.proofs.Outputs.{spans_output}
use Rattle.mr_jobs.proofs.histogram.pixels.Goals as goal

pub returns : goal.returns
returns g c =
    let input = c.args.input.now in
    spans_output (seen c.args.job.now) (reported c.args.workers.now) c.rows_output.result (rows_text decimal) (pixel_rows input)
    (histogram_emits input) _ _ c.counted.result _
    (c.spans.ensures.exact ∙ ap (spans_of c.args.job.now.chunk) (rows_of_bitmap input c.args.bitmap (sym c.requires.bitmap)))
    c.new-mapper.ensures.count c.new-mapper.ensures.tasks c.new-mapper.ensures.whole c.counted.ensures c.rows_output.ensures
