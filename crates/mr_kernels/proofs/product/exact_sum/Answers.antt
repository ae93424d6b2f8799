use Rattle.std.proofs.Common.{◌≤◌, ◌+◌, nat_abs, ◌+ℤ◌, take, Some, ap, sym, ◌∙◌, arith, rules, to_z, w64}
use Rattle.std.proofs.lemmas.Int.{to_z-of_z}
use Rattle.mr_defs.specs.Folded.{limit, total, magnitude}
use Rattle.mr_kernels.specs.Product.{products}
use Rattle.mr_kernels.proofs.Products.{abs_add, added, total_more, sizes_more, all_products, pair_sum-within, pair_sum-past}
use Rattle.mr_kernels.proofs.product.exact_sum.Goals as goal

pub returns-then-sizes-gt-LIMIT : goal.returns-then-sizes-gt-LIMIT
returns-then-sizes-gt-LIMIT c =
    let a = c.args.a.now in
    let b = c.args.b.now in
    let sizes = sizes_more a b c.requires.lengths c.loop-i.i c.loop-i.sizes c.unsigned_abs-sizes.result c.product_at-product.result
    (omega arith) (search rules) c.product_at-product.ensures c.loop-i.invariant.sizes c.unsigned_abs-sizes.ensures.value in
    pair_sum-past a b c.requires.lengths (c.loop-i.i + 1) (omega (arith, sizes))

pub loop-i-preserved : goal.loop-i-preserved
loop-i-preserved c =
    let a = c.args.a.now in
    let b = c.args.b.now in
    let sizes = sizes_more a b c.requires.lengths c.loop-i.i c.loop-i.sizes c.unsigned_abs-sizes.result c.product_at-product.result
    (omega arith) (search rules) c.product_at-product.ensures c.loop-i.invariant.sizes c.unsigned_abs-sizes.ensures.value in
    let size = ap nat_abs (to_z-of_z w64 c.product_at-product.result (search rules)) in
    let next = added (to_z w64 c.loop-i.sum-bits) c.product_at-product.result
    (omega (arith, c.unsigned_abs-sizes.ensures.value, size, c.loop-i.invariant.few)) in
    record {
      few = omega (
        arith,
        ap nat_abs next,
        abs_add (to_z w64 c.loop-i.sum-bits) c.product_at-product.result,
        c.unsigned_abs-sizes.ensures.value,
        size,
        c.loop-i.invariant.few,
      );
      within = omega arith;
      sizes = sizes;
      so_far = next ∙ ap (λ z. z +ℤ c.product_at-product.result) c.loop-i.invariant.so_far
          ∙ ap (λ z. total (take c.loop-i.i (products a b)) +ℤ z) c.product_at-product.ensures
          ∙ sym (total_more a b c.requires.lengths c.loop-i.i (omega arith));
    }

pub returns : goal.returns
returns c =
    let size : magnitude (products c.args.a.now c.args.b.now)
    ≤ limit = omega (
      arith,
      c.loop-i.invariant.sizes,
      c.loop-i.invariant.within,
      ap magnitude (all_products c.args.a.now c.args.b.now c.requires.lengths c.loop-i.i (omega arith)),
    ) in
    ap Some (c.loop-i.invariant.so_far ∙ ap total (all_products c.args.a.now c.args.b.now c.requires.lengths c.loop-i.i (omega arith)))
    ∙ pair_sum-within c.args.a.now c.args.b.now c.requires.lengths size
