use Rattle.std.proofs.Common.{◌≡◌, ◌≤◌, ◌==◌, take, count_by}
use Rattle.mr_kernels.proofs.count.count_rest.Given as goal

abbrev pub invariant-loop-b : goal.invariant-loop-b
invariant-loop-b l = record { few : l.count ≤ l.b-index; so_far : l.count ≡ count_by (λ b. b == l.byte) (take l.b-index l.b-items) }
