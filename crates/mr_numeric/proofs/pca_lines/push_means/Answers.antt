use Rattle.std.proofs.Common.{◌≡◌, ◌++◌, ap, ◌∙◌, arith, get_or, pos, length}
use Rattle.mr_items.specs.Pca.{mean_line}
use Rattle.mr_numeric.proofs.Emitted.{emitted, one_more}
use Rattle.mr_numeric.proofs.MeanLines.{mean_at, mean_here, all_means}
use Rattle.mr_numeric.proofs.pca_lines.push_means.Goals as goal

pub loop-column-preserved : goal.loop-column-preserved
loop-column-preserved c =
    let means = c.args.means.now in
    let at = c.loop-column.column in
    one_more (mean_at means) 0 (λ l. c.push_mean.new.text ≡ l) c.args.text.now at (omega arith)
    (c.in_ok-push_mean.ensures
    ∙ (ap (λ t. t ++ mean_line (at, get_or means at (pos 0))) c.loop-column.invariant
    ∙ ap (λ l. (c.args.text.now ++ emitted (mean_at means) 0 at) ++ l) (mean_here means at (omega (arith, c.loop-column-test.true)))))

pub returns : goal.returns
returns c =
    let all : c.loop-column.column ≡ length c.args.means.now = omega (arith, c.loop-column.auto.column-end, c.loop-column-test.false) in
    c.loop-column.invariant ∙ ap (λ l. c.args.text.now ++ l) (ap (emitted (mean_at c.args.means.now) 0) all ∙ all_means c.args.means.now)
