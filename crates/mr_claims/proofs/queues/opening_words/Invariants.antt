use Rattle.std.proofs.Common.{◌≡◌, ◌<◌, ℕ, ◌≤◌, ◌*◌, ◌/◌, vec_len, vec_capacity, length, slice_index}
use Rattle.mr_base.specs.Tasks.{start_of, total_of}
use Rattle.mr_claims.proofs.queues.opening_words.Given as goal

abbrev pub invariant-loop-k : goal.invariant-loop-k
invariant-loop-k l =
    (l.count ≡ length l.ranges * 8) × (length l.words.items ≡ l.k) × (vec_len l.words ≡ l.k) × (l.count ≤ vec_capacity l.words)
    × ((j : ℕ) → j < l.k → slice_index l.words.items j ≡ start_of (total_of l.ranges) (length l.ranges) (j / 8))
