use Rattle.std.proofs.Common.{rules, ℤ, ◌++◌, ◌∙◌, to_z, of_z}
use Rattle.std.specs.Prelude.{codes}
use Rattle.std.specs.Int.{w128}
use Rattle.std.proofs.lemmas.Int.{to_z-of_z}
use Rattle.std.proofs.lemmas.Result.{on_ok_weaker}
use Rattle.mr_items.specs.Texts.{line, fraction}
use Rattle.mr_numeric.proofs.Lines.{line_before}
use Rattle.mr_numeric.proofs.Products.{difference_kept}
use Rattle.mr_numeric.proofs.regression_lines.push_fractions.Goals as goal

abbrev held : ℤ → ℤ
held z = to_z w128 (of_z w128 z)

pub returns : goal.returns
returns c = on_ok_weaker c.push_fraction-2.result (λ is.
    let sums = c.args.sums.now in
    let below = to_z-of_z w128 c.difference-below.result (search rules) ∙ c.difference-below.ensures
    ∙ difference_kept sums.n sums.xx sums.x sums.x sums.n_small sums.xx_small sums.x_small sums.x_small in
    let slope = to_z-of_z w128 c.difference-slope.result (search rules) ∙ c.difference-slope.ensures
    ∙ difference_kept sums.n sums.xy sums.x sums.y sums.n_small sums.xy_small sums.x_small sums.y_small in
    let intercept = to_z-of_z w128 c.difference-intercept.result (search rules) ∙ c.difference-intercept.ensures
    ∙ difference_kept sums.y sums.xx sums.x sums.xy sums.y_small sums.xx_small sums.x_small sums.xy_small in
    is
    ∙ line_before c.args.text.now c.push_fraction.new.text
    (line (codes "slope " ++ fraction (held c.difference-slope.result) (held c.difference-below.result)))
    (line (codes "intercept " ++ fraction (held c.difference-intercept.result) (held c.difference-below.result)))
    c.in_ok-push_fraction.ensures
    ∙ λ i. c.args.text.now ++ (line (codes "slope " ++ fraction (slope i) (below i))
    ++ line (codes "intercept " ++ fraction (intercept i) (below i)))) c.push_fraction-2.ensures
