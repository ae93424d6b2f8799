use Rattle.std.proofs.Common.{false, length, ap, ◌∙◌}
use Rattle.mr_defs.specs.Folded.{sum_folded}
use Rattle.mr_defs.specs.Tasks.{spans_of}
use Rattle.mr_items.specs.Pca.{column_emits}
use Rattle.mr_jobs.specs.Meaning.{inside_of, is_shared}
use Rattle.mr_jobs.specs.Reported.{reported}
use Rattle.mr_jobs.proofs.SpanShares.{over_spans}
use Rattle.mr_jobs.proofs.pca.sums.Goals as goal

pub returns : goal.returns
returns g c =
    let job = c.args.job.now in
    let grid = c.args.grid.now in
    over_spans (inside_of job.container job.capacity) (is_shared job.container) false sum_folded (reported c.args.workers.now) _ job.chunk
    (length grid) _ (column_emits grid) c.spans.result c.number_round.result c.number_round.ensures
    c.requires.own c.new-mapper.ensures.whole c.new-mapper.ensures.count c.new-mapper.ensures.tasks
    (c.spans.ensures.exact ∙ ap (spans_of job.chunk) c.rows.ensures)
