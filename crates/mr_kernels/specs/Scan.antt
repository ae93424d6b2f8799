-- Scans over a text from a place on.
use Rattle.std.specs.Prelude.{ℕ, ◌+◌, Bool, not, ◌==◌, List, drop}
use Rattle.std.specs.List.{prefix_len, position_or_len}
use Rattle.mr_items.specs.Lines.{is_field_byte}
use Rattle.mr_items.specs.Words.{is_word_byte}
use Rattle.mr_kernels.specs.declared.masks.Target.{Target}
use Rattle.mr_kernels.specs.declared.masks.Target.TheVariants as target

-- the least place at or after this one with a word byte, or the length
abbrev pub word_start_in : List ℕ → ℕ → ℕ
word_start_in bytes from = from + position_or_len is_word_byte (drop from bytes)

-- the least place at or after this one whose byte is no word byte, or the length
abbrev pub word_end_in : List ℕ → ℕ → ℕ
word_end_in bytes from = from + prefix_len is_word_byte (drop from bytes)

-- the least place at or after this one with a byte 10, or the length
abbrev pub line_end_in : List ℕ → ℕ → ℕ
line_end_in bytes from = from + prefix_len (λ b. not (b == 10)) (drop from bytes)

-- a byte that the scan looks for, and where the first one from a place on stands
abbrev pub is_target : Target → ℕ → Bool
is_target target.WordByte byte = is_word_byte byte
is_target target.OtherByte byte = not (is_word_byte byte)
is_target target.LineEnd byte = byte == 10
is_target target.FieldByte byte = is_field_byte byte

abbrev pub target_in : Target → List ℕ → ℕ → ℕ
target_in target bytes from = from + position_or_len (is_target target) (drop from bytes)
