use Rattle.std.proofs.Common.{◌≡◌, ◌<◌, ◌≤◌, ℕ, vec_len, vec_capacity, length, slice_index}
use Rattle.mr_common.specs.Lawful.{EMPTY}
use Rattle.mr_common.proofs.array.empty_words.Given as goal

abbrev pub invariant-loop : goal.invariant-loop
invariant-loop l = (length l.words.items ≡ l.counter) × (vec_len l.words ≡ l.counter) × (l.count ≤ vec_capacity l.words)
    × ((k : ℕ) → k < l.counter → slice_index l.words.items k ≡ EMPTY)
