use Rattle.std.proofs.Common.{◌≤◌, ◌*◌, length, Some, ap, ◌∙◌, arith, rules, w64}
use Rattle.std.proofs.lemmas.Int.{to_z-of_z}
use Rattle.mr_defs.specs.Folded.{limit, magnitude}
use Rattle.mr_kernels.specs.Product.{products}
use Rattle.mr_kernels.proofs.Products.{magnitude_bound, pair_sum-within}
use Rattle.mr_kernels.proofs.product.pair_sum.Goals as goal

pub returns : goal.returns
returns c =
    let a = c.args.a.now in
    let b = c.args.b.now in
    let most : length a * (c.largest-left.result * c.largest-right.result) ≤ limit = search rules in
    let size : magnitude (products a b)
    ≤ limit = omega (
      arith,
      most,
      magnitude_bound a b c.requires.lengths c.largest-left.result c.largest-right.result c.largest-left.ensures.bound
          c.largest-right.ensures.bound,
    ) in
    ap Some (to_z-of_z w64 c.plain_sum.result (search rules) ∙ c.plain_sum.ensures) ∙ pair_sum-within a b c.requires.lengths size
