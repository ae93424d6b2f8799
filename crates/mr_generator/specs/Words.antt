-- The words that a generated text may have.
use Rattle.std.specs.Prelude.{ℕ, List, map}
use Rattle.std.specs.List.{range_with_len}
use Rattle.mr_items.specs.Generator.{word_of}

-- those of the numbers below this
unfoldable pub words_below : ℕ → List (List ℕ)
words_below n = map word_of (range_with_len 0 n)
