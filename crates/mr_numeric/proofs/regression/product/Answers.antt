use Rattle.std.proofs.Common.{◌≤◌, nat_abs, subst, sym}
use Rattle.mr_defs.specs.Folded.{limit}
use Rattle.mr_numeric.proofs.Products.{product_is, product_small}
use Rattle.mr_numeric.proofs.regression.product.Goals as goal

pub returns-clause-product : goal.returns-clause-product
returns-clause-product c = product_is c.args.x c.args.y c.requires.x c.requires.y

pub returns-clause-small : goal.returns-clause-small
returns-clause-small c = subst (λ z. nat_abs z ≤ limit) (sym (product_is c.args.x c.args.y c.requires.x c.requires.y))
    (product_small c.args.x c.args.y c.requires.x c.requires.y)
