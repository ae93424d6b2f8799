use Rattle.std.proofs.Common.{arith}
use Rattle.mr_numeric.proofs.Blocks.{length-products}
use Rattle.mr_numeric.proofs.block.ProductsRun.len.Goals as goal

pub returns : goal.returns
returns c = omega (arith, length-products c.args.self.now.left.now c.args.self.now.right.now)
