use Rattle.std.proofs.Common.{◌≡◌, ◌≤◌, ◌++◌, ◌∷◌, [], nat_abs, ap, subst, sym, ◌∙◌, arith, w32, to_z, of_z}
use Rattle.std.specs.Int.RustNames.{FitsSigned}
use Rattle.std.proofs.lemmas.Int.{fits_signed_from_abs, to_z-of_z}
use Rattle.std.proofs.lemmas.List.Elements.{All-push}
use Rattle.mr_items.specs.Pca.{deviation}
use Rattle.mr_numeric.specs.Blocks.{AreMild}
use Rattle.mr_numeric.proofs.Blocks.{row_more}
use Rattle.mr_numeric.proofs.Products.{kept}
use Rattle.mr_numeric.proofs.block.Column.of.Goals as goal

pub loop-r-preserved : goal.loop-r-preserved
loop-r-preserved c =
    let z = c.deviation-apart.result in
    let same = kept z (omega (arith, c.deviation-apart.ensures.small)) in
    let small : nat_abs z ≤ 2147483647
    = omega (arith, c.unsigned_abs.ensures.value, ap nat_abs same, c.if-unsigned_abs-gt-MILD.false) in
    let fits : FitsSigned w32 z = fits_signed_from_abs w32 z (omega (arith, small)) in
    let put : c.push.new.self.items ≡ c.loop-r.deviations.items ++ z ∷ []
    = c.in_ok-push.ensures.items
    ∙ ap (λ y. c.loop-r.deviations.items ++ y ∷ []) (ap (λ y. to_z w32 (of_z w32 y)) same ∙ to_z-of_z w32 z fits) in
    record {
      from = omega (arith, c.loop-r.invariant.from);
      deviations = put
          ∙ ap (λ z. c.loop-r.deviations.items ++ z ∷ []) c.deviation-apart.ensures.deviation
          ∙ ap (λ l. l ++ deviation c.args.means.now c.row.result.now c.args.j ∷ []) c.loop-r.invariant.deviations
          ∙ row_more c.args.means.now c.args.grid.now c.args.from c.loop-r.r c.args.j c.row.result.now c.loop-r.invariant.from
          c.row.ensures.row;
      mild = subst AreMild (sym put)
          (All-push (λ z. nat_abs z ≤ 2147483647) c.loop-r.deviations.items z c.loop-r.invariant.mild small);
    }
