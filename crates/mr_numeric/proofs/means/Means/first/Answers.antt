use Rattle.std.proofs.Common.{◌≡◌, ◌≤◌, ◌++◌, ◌∷◌, [], nat_abs, length, get_or, take, ap, subst, ◌∙◌, arith, sym}
use Rattle.std.specs.List.{All}
use Rattle.std.proofs.lemmas.List.{take_more}
use Rattle.std.proofs.lemmas.List.Elements.{All-push}
use Rattle.std.proofs.lemmas.Option.{get_or_from_slice_get}
use Rattle.mr_defs.specs.Limits.{greatest_element}
use Rattle.mr_items.specs.Grid.{columns_of}
use Rattle.mr_numeric.specs.Sums.{AreMeans}
use Rattle.mr_numeric.proofs.means.Means.first.Goals as goal

pub loop-row-preserved : goal.loop-row-preserved
loop-row-preserved c =
    let grid = c.args.grid.now in
    let i = c.loop-row.row in
    let row = c.row.result.now in
    let means = c.loop-row.means.items in
    let items : c.push.new.self.items ≡ means ++ row ∷ [] = c.in_ok-push.ensures.items
    ∙ ap (λ m. means ++ m ∷ []) c.in_ok-mean_of_row.ensures in
    let here : get_or grid i [] ≡ row = get_or_from_slice_get grid i row [] c.row.ensures.row in
    record {
      first = items ∙ ap (λ l. l ++ row ∷ []) c.loop-row.invariant.first ∙ ap (λ r. take i grid ++ r ∷ []) (sym here)
          ∙ sym (take_more grid i [] (omega (arith, c.loop-row-test.true, c.requires.there)));
      fit = subst (AreMeans (columns_of grid)) (sym items) (record {
        each = All-push (λ m. length m ≡ columns_of grid) means row c.loop-row.invariant.fit.each c.row.ensures.length;
        small = All-push (All (λ z. nat_abs z ≤ greatest_element)) means row c.loop-row.invariant.fit.small c.row.ensures.bounded;
      });
    }
