use Rattle.std.proofs.Common.{◌≡◌, ◌≤◌, nat_abs, ◌++◌, ◌∷◌, [], pos, get_or, ap, ◌∙◌, arith, sym, to_z, of_z}
use Rattle.std.specs.Int.{w128}
use Rattle.std.proofs.lemmas.List.{take_all, take_more}
use Rattle.std.proofs.lemmas.List.Elements.{All-get_or}
use Rattle.std.proofs.lemmas.Result.{IfOk-weaker}
use Rattle.mr_defs.specs.Limits.{greatest_element}
use Rattle.mr_numeric.proofs.Products.{kept_wide}
use Rattle.mr_numeric.proofs.Quotients.{narrow_is}
use Rattle.mr_numeric.proofs.means.mean_of_row.Goals as goal

pub loop-number-preserved : goal.loop-number-preserved
loop-number-preserved c =
    let row = c.args.row.now in
    let i = c.loop-number.number-index in
    let small = All-get_or (λ z. nat_abs z ≤ greatest_element) row i (pos 0) c.loop-number-test.true c.requires in
    c.in_ok-push.ensures.items
    ∙ ap (λ y. c.loop-number.coordinates.items ++ y ∷ []) (ap (λ y. to_z w128 (of_z w128 y)) (narrow_is (get_or row i (pos 0)) small)
    ∙ kept_wide (get_or row i (pos 0)) (omega (arith, small)))
    ∙ ap (λ l. l ++ get_or row i (pos 0) ∷ []) c.loop-number.invariant ∙ sym (take_more row i (pos 0) c.loop-number-test.true)

pub returns : goal.returns
returns c = IfOk-weaker c.of.result (λ mean. mean ≡ c.loop-number.coordinates.items) (λ mean. mean ≡ c.args.row.now)
    (λ mean is. is ∙ c.loop-number.invariant ∙ take_all c.loop-number.number-index c.args.row.now c.loop-number-test.false) c.of.ensures
