use Rattle.std.proofs.Common.{◌≡◌, ◌≤◌, ◌-◌, ◌==◌, length, take, count_by}
use Rattle.mr_kernels.proofs.count.count_byte.Given as goal

abbrev pub invariant-loop-at : goal.invariant-loop-at
invariant-loop-at l =
    record { inside : l.at ≤ length l.bytes; few : l.count ≤ l.at; so_far : l.count ≡ count_by (λ b. b == l.byte) (take l.at l.bytes) }

abbrev pub decreases-loop-at : goal.decreases-loop-at
decreases-loop-at l = length l.bytes - l.at
