use Rattle.std.proofs.Common.{rules, ◌<◌, ◌≤◌, ◌*◌, length, ap₂, subst, sym, arith}
use Rattle.mr_items.specs.Grid.{columns_of}
use Rattle.mr_jobs.proofs.Factors.{few_elements}
use Rattle.mr_jobs.proofs.matrix_product.elements.Goals as goal

pub overflow_mul-result : goal.overflow_mul-result
overflow_mul-result c =
    let small : length c.args.left.now * columns_of c.args.right.now < 18446744073709551616 =
    omega (arith, few_elements c.args.left.now c.args.right.now c.requires) in
    search (rules, small)

pub returns-clause-few : goal.returns-clause-few
returns-clause-few c =
    subst (λ n. n ≤ 16777216) (sym (ap₂ (λ a b. a * b) c.rows.ensures c.columns.ensures))
    (few_elements c.args.left.now c.args.right.now c.requires)
