use Rattle.std.proofs.Common.{◌≡◌, ◌≤◌, take, nat_abs}
use Rattle.mr_defs.specs.Folded.{limit, total, magnitude}
use Rattle.mr_kernels.specs.Product.{products}
use Rattle.mr_kernels.proofs.product.exact_sum.Given as goal

abbrev pub invariant-loop-i : goal.invariant-loop-i
invariant-loop-i l = record {
  few : nat_abs l.sum ≤ l.sizes;
  within : l.sizes ≤ limit;
  sizes : l.sizes ≡ magnitude (take l.i (products l.a l.b));
  so_far : l.sum ≡ total (take l.i (products l.a l.b));
}
