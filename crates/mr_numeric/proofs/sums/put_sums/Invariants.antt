use Rattle.std.proofs.Common.{◌≡◌, ◌<◌, ◌-◌, ℕ, pos, length, get_or, drop}
use Rattle.mr_items.specs.Texts.{number_at}
use Rattle.mr_numeric.proofs.sums.put_sums.Given as goal

abbrev pub invariant-loop-done : goal.invariant-loop-done
invariant-loop-done l = record {
  size : length l.sums ≡ length l.initial.sums;
  sums : (k : ℕ) → k < length l.sums → get_or l.sums k (pos 0) ≡ number_at (drop (length l.rows - l.done) l.rows) k;
}
