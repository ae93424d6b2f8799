use Rattle.std.proofs.Common.{◌≤◌, Some, ap, ◌∙◌, arith, rules, w32, w64, to_z, of_z}
use Rattle.std.proofs.lemmas.Int.{to_z-of_z}
use Rattle.mr_defs.specs.Folded.{limit, magnitude}
use Rattle.mr_kernels.specs.Product.{products}
use Rattle.mr_kernels.proofs.Products.{magnitude_bound, pair_sum-within}
use Rattle.mr_numeric.proofs.narrow.row_sum.Goals as goal

pub returns-then-narrow : goal.returns-then-narrow
returns-then-narrow c =
    let a = c.args.left.now in
    let b = c.args.right.now in
    let is = c.if-narrow.true in
    let size : magnitude (products a b)
    ≤ limit = omega (
      arith,
      c.requires.few is,
      magnitude_bound a b c.requires.lengths 1448 1448 (c.requires.narrow_left is) (c.requires.narrow_right is),
    ) in
    let sum = c.narrow_sum.result in
    ap Some (ap (λ z. to_z w64 (of_z w64 z)) (to_z-of_z w32 sum (search rules)) ∙ to_z-of_z w64 sum (search rules) ∙ c.narrow_sum.ensures)
    ∙ pair_sum-within a b c.requires.lengths size
