use Rattle.std.proofs.Common.{◌≡◌, ◌++◌, pos, get_or, ap, ◌∙◌, arith}
use Rattle.mr_numeric.specs.Couples.{column_lines}
use Rattle.mr_numeric.proofs.Emitted.{one_more}
use Rattle.mr_numeric.proofs.pca_lines.push_columns.Goals as goal

pub loop-i-preserved : goal.loop-i-preserved
loop-i-preserved c =
    let lines = column_lines c.args.points c.args.columns (λ k. get_or c.args.sums.now k (pos 0)) in
    one_more lines 0 (λ l. c.push_couples.new.text ≡ l) c.args.text.now c.loop-i.i (omega arith)
    (c.in_ok-push_couples.ensures ∙ ap (λ t. t ++ lines c.loop-i.i) c.loop-i.invariant)
