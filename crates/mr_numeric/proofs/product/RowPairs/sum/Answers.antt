use Rattle.std.proofs.Common.{◌≤◌, nat_abs, ◌/◌, ◌%◌, [], get_or, subst, ap₂, ap, ◌∙◌, sym}
use Rattle.std.specs.Prelude.{IfSome}
use Rattle.std.proofs.lemmas.Option.{get_or_from_slice_get}
use Rattle.mr_defs.specs.Folded.{limit}
use Rattle.mr_items.specs.MatrixProduct.{products, sum_emits}
use Rattle.mr_numeric.specs.Pairs.{sum_of}
use Rattle.mr_numeric.proofs.SumsOf.{sum_is_small, sum_of_sum}
use Rattle.mr_numeric.proofs.product.RowPairs.sum.Goals as goal

pub returns-clause-small : goal.returns-clause-small
returns-clause-small c = subst (λ s. IfSome s (λ z. nat_abs z ≤ limit)) (sym c.row_sum.ensures)
    (sum_is_small (products c.row-row.result.now c.row-column.result.now))

pub returns-clause-sum : goal.returns-clause-sum
returns-clause-sum c =
    let left = c.args.self.now.left.now in
    let right = c.args.self.now.right.now in
    ap (sum_of c.args.pair) c.row_sum.ensures
    ∙ sum_of_sum c.args.pair (products c.row-row.result.now c.row-column.result.now)
    ∙ ap₂ (λ xs ys. sum_emits c.args.pair (products xs ys))
    (sym (get_or_from_slice_get left _ c.row-row.result.now [] c.row-row.ensures.row))
    (sym (get_or_from_slice_get right _ c.row-column.result.now [] c.row-column.ensures.row))
    ∙ ap (λ n. sum_emits c.args.pair (products (get_or left (c.args.pair / n) []) (get_or right (c.args.pair % n) [])))
    c.rows-columns.ensures
