use Rattle.std.proofs.Common.{◌≤◌, ◌<◌, ◌*ℤ◌, ◌+ℤ◌, ℕ, ℤ, List, pos, nat_abs, length, get_or, ap, sym, ◌∙◌, arith, to_z, w32}
use Rattle.std.specs.List.{All}
use Rattle.std.proofs.lemmas.List.Elements.{All-get_or}
use Rattle.mr_defs.specs.Folded.{total}
use Rattle.mr_kernels.proofs.Products.{total_more, all_products}
use Rattle.mr_numeric.proofs.Narrowed.{next, next_few, next_fits, product_fits}
use Rattle.mr_numeric.proofs.narrow.narrow_sum.Goals as goal

narrow : (numbers : List ℤ) (i : ℕ) → i < length numbers → All (λ z. nat_abs z ≤ 1448) numbers → nat_abs (get_or numbers i (pos 0)) ≤ 1448
narrow numbers i h all = All-get_or (λ z. nat_abs z ≤ 1448) numbers i (pos 0) h all

pub overflow_mul-sum : goal.overflow_mul-sum
overflow_mul-sum c =
    product_fits (to_z w32 c.loop-i.sum-bits) (get_or c.args.left.now c.loop-i.i (pos 0))
    (get_or c.args.right.now c.loop-i.i (pos 0)) c.loop-i.i
    (narrow c.args.left.now c.loop-i.i c.loop-i-test.true c.requires.left)
    (narrow c.args.right.now c.loop-i.i (omega (arith, c.loop-i-test.true, c.requires.lengths)) c.requires.right)
    c.loop-i.invariant.few (omega (arith, c.loop-i-test.true, c.requires.few))

pub overflow_add-sum : goal.overflow_add-sum
overflow_add-sum c =
    next_fits (to_z w32 c.loop-i.sum-bits) (get_or c.args.left.now c.loop-i.i (pos 0))
    (get_or c.args.right.now c.loop-i.i (pos 0)) c.loop-i.i
    (narrow c.args.left.now c.loop-i.i c.loop-i-test.true c.requires.left)
    (narrow c.args.right.now c.loop-i.i (omega (arith, c.loop-i-test.true, c.requires.lengths)) c.requires.right)
    c.loop-i.invariant.few (omega (arith, c.loop-i-test.true, c.requires.few))

pub loop-i-preserved : goal.loop-i-preserved
loop-i-preserved c =
    let x = get_or c.args.left.now c.loop-i.i (pos 0) in
    let y = get_or c.args.right.now c.loop-i.i (pos 0) in
    let left = narrow c.args.left.now c.loop-i.i c.loop-i-test.true c.requires.left in
    let right = narrow c.args.right.now c.loop-i.i (omega (arith, c.loop-i-test.true, c.requires.lengths)) c.requires.right in
    let below : c.loop-i.i < 1024 = omega (arith, c.loop-i-test.true, c.requires.few) in
    let is = next (to_z w32 c.loop-i.sum-bits) x y c.loop-i.i left right c.loop-i.invariant.few below in
    record {
      few = omega (arith, ap nat_abs is, next_few (to_z w32 c.loop-i.sum-bits) x y c.loop-i.i left right c.loop-i.invariant.few below);
      so_far = is ∙ ap (λ z. z +ℤ x *ℤ y) c.loop-i.invariant.so_far
          ∙ sym (total_more c.args.left.now c.args.right.now c.requires.lengths c.loop-i.i c.loop-i-test.true);
    }

pub returns : goal.returns
returns c = c.loop-i.invariant.so_far ∙ ap total (all_products c.args.left.now c.args.right.now c.requires.lengths c.loop-i.i (omega arith))
