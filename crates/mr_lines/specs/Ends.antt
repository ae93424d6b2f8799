-- Where a line ends.
use Rattle.std.specs.Prelude.{ℕ, Bool, ◌||◌, ◌==◌, List, length, slice_index}

-- at a byte 10, or at the end of the text
abbrev pub is_line_end : List ℕ → ℕ → Bool
is_line_end bytes place = (place == length bytes) || (slice_index bytes place == 10)
