use Rattle.std.proofs.Common.{◌≡◌, ◌-◌, ◌++◌, ◌∷◌, [], ap, subst, sym, ◌∙◌}
use Rattle.std.specs.Prelude.{IfSome}
use Rattle.std.specs.List.{All}
use Rattle.std.proofs.lemmas.List.Elements.{All-push}
use Rattle.mr_numeric.specs.Blocks.{AreMild, deviations_of}
use Rattle.mr_numeric.proofs.Blocks.{column_more}
use Rattle.mr_numeric.proofs.block.columns_between.Goals as goal

pub loop-j-preserved : goal.loop-j-preserved
loop-j-preserved c =
    let deviations = deviations_of c.args.means.now c.args.grid.now c.args.from (c.args.to - c.args.from) c.loop-j.j in
    let is : c.in-Some.column ≡ deviations =
    subst (λ o. IfSome o (λ column. column ≡ deviations)) c.in-Some.is c.in_ok-column.ensures.column in
    let mild : AreMild c.in-Some.column = subst (λ o. IfSome o AreMild) c.in-Some.is c.in_ok-column.ensures.mild in
    record {
      columns = c.in_ok-push.ensures.items
          ∙ ap (λ l. l ++ c.in-Some.column ∷ []) c.loop-j.invariant.columns
          ∙ column_more c.args.means.now c.args.grid.now c.args.from (c.args.to - c.args.from) c.loop-j.j c.in-Some.column is;
      mild = subst (All AreMild) (sym c.in_ok-push.ensures.items)
          (All-push AreMild c.loop-j.columns.items c.in-Some.column c.loop-j.invariant.mild mild);
    }
