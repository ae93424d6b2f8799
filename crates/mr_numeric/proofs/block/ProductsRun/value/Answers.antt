use Rattle.std.proofs.Common.{Some, sym, ap, ◌∙◌, arith}
use Rattle.mr_numeric.proofs.Blocks.{length-products, product_there}
use Rattle.mr_numeric.proofs.Products.{kept}
use Rattle.mr_numeric.proofs.block.ProductsRun.value.Goals as goal

pub product_at-requires-clause-left_in : goal.product_at-requires-clause-left_in
product_at-requires-clause-left_in c = omega (arith, c.requires, length-products c.args.self.now.left.now c.args.self.now.right.now)

pub product_at-requires-clause-right_in : goal.product_at-requires-clause-right_in
product_at-requires-clause-right_in c = omega (arith, c.requires, length-products c.args.self.now.left.now c.args.self.now.right.now)

pub returns-clause-value : goal.returns-clause-value
returns-clause-value c = product_there c.args.self.now.left.now c.args.self.now.right.now c.args.at c.requires
    ∙ ap Some (sym c.product_at.ensures.product ∙ sym (kept c.product_at.result c.product_at.ensures.small))
