use Rattle.std.proofs.Common.{◌≡◌, ◌≤◌, ◌*◌, take, nat_abs}
use Rattle.mr_defs.specs.Folded.{total}
use Rattle.mr_kernels.specs.Product.{products}
use Rattle.mr_numeric.proofs.narrow.narrow_sum.Given as goal

abbrev pub invariant-loop-i : goal.invariant-loop-i
invariant-loop-i l = record { few : nat_abs l.sum ≤ l.i * 2096704; so_far : l.sum ≡ total (take l.i (products l.left l.right)) }
