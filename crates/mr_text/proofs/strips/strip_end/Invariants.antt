use Rattle.std.proofs.Common.{◌≡◌, ◌≤◌, ◌<◌, ◌+◌, ◌-◌, ℕ, true, get_or}
use Rattle.mr_items.specs.Words.{is_word_byte}
use Rattle.mr_text.proofs.strips.strip_end.Given as goal

abbrev pub invariant-loop-cut : goal.invariant-loop-cut
invariant-loop-cut l = record {
  later : l.at ≤ l.cut;
  before : l.cut ≤ l.at + 1024;
  all : (k : ℕ) → l.cut ≤ k → k < l.at + 1024
      → is_word_byte (get_or l.text k 0) ≡ true;
}

abbrev pub decreases-loop-cut : goal.decreases-loop-cut
decreases-loop-cut l = l.cut - l.at
