use Rattle.std.proofs.Common.{◌≡◌, ◌+◌, ◌*◌, ◌++◌, ℤ, ◌*ℤ◌, length, take, subst, ap, ap₂, ◌∙◌, arith}
use Rattle.std.proofs.lemmas.Result.{err_from_is_err_and}
use Rattle.mr_items.specs.Pca.{deviation}
use Rattle.mr_numeric.specs.Pairs.{sum_of, couple_emits}
use Rattle.mr_numeric.proofs.Emitted.{emitted, one_more, front}
use Rattle.mr_numeric.proofs.Products.{kept}
use Rattle.mr_numeric.proofs.SumsOf.{number_within, sum_of_number}
use Rattle.mr_numeric.proofs.spread.emit_couples.Given.{Over}
use Rattle.mr_numeric.proofs.spread.emit_couples.Goals.{After-product_within-product}
use Rattle.mr_numeric.proofs.spread.emit_couples.Goals as goal

-- what the pair of columns emits
this_couple : (g : Over) (c : After-product_within-product g)
    → sum_of (c.args.i * length c.args.row.now + c.loop-j.j) c.product_within-product.result
    ≡ couple_emits c.args.means.now c.args.row.now c.args.i c.loop-j.j
this_couple g c =
    let key = c.args.i * length c.args.row.now + c.loop-j.j in
    ap (sum_of key)
    (c.product_within-product.ensures
    ∙ ap₂ (λ x y. number_within (x *ℤ y))
    (kept c.deviation-first.result (omega (arith, c.deviation-first.ensures.small)) ∙ c.deviation-first.ensures.deviation)
    (kept c.deviation.result (omega (arith, c.deviation.ensures.small)) ∙ c.deviation.ensures.deviation))
    ∙ sum_of_number key (deviation c.args.means.now c.args.row.now c.args.i *ℤ deviation c.args.means.now c.args.row.now c.loop-j.j)

pub returns-in_err-emit_sum-clause-err : goal.returns-in_err-emit_sum-clause-err
returns-in_err-emit_sum-clause-err g c =
    let emits = couple_emits c.args.means.now c.args.row.now c.args.i in
    let P = g.L.Local.stands c.emit_sum.new.out in
    let e = err_from_is_err_and c.from_residual.result c.from_residual.ensures.1 in
    rw e.1 (λ es h.
    let some = c.in_err-emit_sum.ensures.err _ (c.loop-j.invariant.stands es h) in
    front emits c.args.i P es c.loop-j.j (length c.args.row.now) some.0 c.loop-j.invariant.from c.loop-j-test.true
    (subst (λ l. P ((es ++ emitted emits c.args.i c.loop-j.j) ++ take some.0 l))
    (this_couple g (goal.at.returns-in_err-emit_sum-clause-err g c).After-product_within-product) some.1))

pub loop-j-preserved : goal.loop-j-preserved
loop-j-preserved g c =
    let emits = couple_emits c.args.means.now c.args.row.now c.args.i in
    let P = g.L.Local.stands c.emit_sum.new.out in
    record {
      from = omega (arith, c.loop-j.invariant.from);
      stands = λ es h. one_more emits c.args.i P es c.loop-j.j c.loop-j.invariant.from
          (subst (λ l. P ((es ++ emitted emits c.args.i c.loop-j.j) ++ l))
          (this_couple g (goal.at.loop-j-preserved g c).After-product_within-product)
          (c.in_ok-emit_sum.ensures.ok _ (c.loop-j.invariant.stands es h)));
      origin = g.met.L.Local.origin_trans _ _ _ c.loop-j.invariant.origin c.in_ok-emit_sum.ensures.origin;
    }
