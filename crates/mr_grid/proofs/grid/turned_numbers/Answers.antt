use Rattle.std.proofs.Common.{◌++◌, ap, sym, ◌∙◌}
use Rattle.mr_grid.specs.Dense.{column_in}
use Rattle.mr_grid.proofs.Turned.{flat_map-more}
use Rattle.mr_grid.proofs.grid.turned_numbers.Goals as goal

pub loop-column-preserved : goal.loop-column-preserved
loop-column-preserved c =
    let column = column_in c.args.numbers.now c.args.columns c.args.rows in
    c.in_ok-push_column.ensures ∙ ap (λ xs. xs ++ column c.loop-column.column) c.loop-column.invariant
    ∙ sym (flat_map-more column c.loop-column.column)
