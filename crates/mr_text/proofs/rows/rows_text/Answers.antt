use Rattle.std.proofs.Common.{[], ◌∙◌}
use Rattle.mr_items.specs.Texts.{row_text}
use Rattle.mr_base.proofs.Read.{appended, found_pair}
use Rattle.mr_text.proofs.rows.rows_text.Goals as goal

pub loop-i-preserved : goal.loop-i-preserved
loop-i-preserved g c =
    c.in_ok-push_row.ensures
    ∙ appended (row_text g.K.Key.printed) [] c.loop-i.text c.args.rows.now c.loop-i.i (c.key.result.now, c.answer.result.now)
    (found_pair c.args.rows.now c.loop-i.i c.key.result.now c.answer.result.now c.key.ensures c.answer.ensures) c.loop-i.invariant
