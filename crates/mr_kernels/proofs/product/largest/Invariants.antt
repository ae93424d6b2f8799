use Rattle.std.proofs.Common.{◌≤◌, take, nat_abs}
use Rattle.std.specs.List.{All}
use Rattle.mr_defs.specs.Limits.{greatest_element}
use Rattle.mr_kernels.proofs.product.largest.Given as goal

abbrev pub invariant-loop-number : goal.invariant-loop-number
invariant-loop-number l = record { most : l.most ≤ greatest_element; bound : All (λ z. nat_abs z ≤ l.most) (take l.number-index l.numbers) }
