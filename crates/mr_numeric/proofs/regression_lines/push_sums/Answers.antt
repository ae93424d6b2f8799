use Rattle.std.proofs.Common.{◌++◌, ◌∙◌}
use Rattle.std.specs.Prelude.{codes}
use Rattle.std.proofs.lemmas.Result.{on_ok_weaker}
use Rattle.mr_items.specs.LinearRegression.{named}
use Rattle.mr_numeric.proofs.Lines.{named_before}
use Rattle.mr_numeric.proofs.regression_lines.push_sums.Goals as goal

pub returns : goal.returns
returns c = on_ok_weaker c.push_named-6.result (λ is rest.
    let sums = c.args.sums.now in
    let xy = named (codes "sxy") sums.xy ++ rest in
    let yy = named (codes "syy") sums.yy ++ xy in
    let xx = named (codes "sxx") sums.xx ++ yy in
    let y = named (codes "sy") sums.y ++ xx in
    let x = named (codes "sx") sums.x ++ y in
    named_before (codes "sxy") c.push_named-5.new.text c.push_named-6.new.text rest sums.xy sums.xy_small is
    ∙ named_before (codes "syy") c.push_named-4.new.text c.push_named-5.new.text xy sums.yy sums.yy_small c.in_ok-push_named-5.ensures
    ∙ named_before (codes "sxx") c.push_named-3.new.text c.push_named-4.new.text yy sums.xx sums.xx_small c.in_ok-push_named-4.ensures
    ∙ named_before (codes "sy") c.push_named-2.new.text c.push_named-3.new.text xx sums.y sums.y_small c.in_ok-push_named-3.ensures
    ∙ named_before (codes "sx") c.push_named.new.text c.push_named-2.new.text y sums.x sums.x_small c.in_ok-push_named-2.ensures
    ∙ named_before
    (codes "n") c.args.text.now c.push_named.new.text x sums.n sums.n_small c.in_ok-push_named.ensures) c.push_named-6.ensures
