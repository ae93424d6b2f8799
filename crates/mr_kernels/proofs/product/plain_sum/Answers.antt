use Rattle.std.proofs.Common.{◌≤◌, ◌+◌, ◌*◌, nat_abs, ◌+ℤ◌, length, take, ap, sym, ◌∙◌, arith, to_z, w64}
use Rattle.std.proofs.lemmas.Nat.{mul-le}
use Rattle.mr_defs.specs.Folded.{limit, total}
use Rattle.mr_kernels.specs.Product.{products}
use Rattle.mr_kernels.proofs.Products.{abs_add, added, added_fits, product_bound, total_more, all_products}
use Rattle.mr_kernels.proofs.product.plain_sum.Goals as goal

-- the next product is within its bound, and the sum with it within the limit
product_within : (c : goal.After-product_at-sum) → nat_abs c.product_at-sum.result ≤ c.args.left * c.args.right
product_within c =
    let bound = product_bound c.args.a.now c.args.b.now c.requires.lengths c.args.left c.args.right c.requires.left c.requires.right
    c.loop-i.i (omega arith) in
    omega (arith, ap nat_abs c.product_at-sum.ensures, bound)

sum_within : (c : goal.After-product_at-sum) → nat_abs (to_z w64 c.loop-i.sum-bits) + nat_abs c.product_at-sum.result ≤ limit
sum_within c =
    let most : (c.loop-i.i + 1) * (c.args.left * c.args.right)
    ≤ length c.args.a.now * (c.args.left * c.args.right) = mul-le (c.loop-i.i + 1) (c.args.left * c.args.right) (length c.args.a.now)
    (c.args.left * c.args.right) (omega arith) (omega arith) in
    omega (arith, most, product_within c, c.loop-i.invariant.few, c.requires.bound)

pub overflow_add-sum : goal.overflow_add-sum
overflow_add-sum c = added_fits (to_z w64 c.loop-i.sum-bits) c.product_at-sum.result (sum_within c)

pub loop-i-preserved : goal.loop-i-preserved
loop-i-preserved c =
    let next = added (to_z w64 c.loop-i.sum-bits) c.product_at-sum.result (sum_within c) in
    record {
      few = omega
          (arith, ap nat_abs next, abs_add (to_z w64 c.loop-i.sum-bits) c.product_at-sum.result, product_within c, c.loop-i.invariant.few);
      so_far = next ∙ ap (λ z. z +ℤ c.product_at-sum.result) c.loop-i.invariant.so_far
          ∙ ap (λ z. total (take c.loop-i.i (products c.args.a.now c.args.b.now)) +ℤ z) c.product_at-sum.ensures
          ∙ sym (total_more c.args.a.now c.args.b.now c.requires.lengths c.loop-i.i (omega arith));
    }

pub returns : goal.returns
returns c = c.loop-i.invariant.so_far ∙ ap total (all_products c.args.a.now c.args.b.now c.requires.lengths c.loop-i.i (omega arith))
