use Rattle.std.proofs.Common.{◌≡◌, ◌≤◌, ◌*◌, take, nat_abs}
use Rattle.mr_defs.specs.Folded.{total}
use Rattle.mr_kernels.specs.Product.{products}
use Rattle.mr_kernels.proofs.product.plain_sum.Given as goal

abbrev pub invariant-loop-i : goal.invariant-loop-i
invariant-loop-i l = record { few : nat_abs l.sum ≤ l.i * (l.left * l.right); so_far : l.sum ≡ total (take l.i (products l.a l.b)) }
