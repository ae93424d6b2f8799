-- Fields of a line, from a place on.
use Rattle.std.specs.Prelude.{◌≡◌, ◌≤◌, ℕ, ◌+◌, ℤ, Bool, false, not, length, take, slice_index_or, is_none, if◌then◌else◌, List, drop, find}
use Rattle.std.specs.Prelude.{filter_map, Option, Some, None}
use Rattle.std.specs.Char.{is_ascii_digit}
use Rattle.std.specs.Str.Parse.{digits_value}
use Rattle.std.specs.List.{prefix_len}
use Rattle.mr_defs.specs.Limits.{greatest_element}
use Rattle.mr_items.specs.Grid.{element_of}
use Rattle.mr_items.specs.Lines.{is_field_byte}
use Rattle.mr_items.specs.Number.{is_numeral_up_to}
use Rattle.mr_items.specs.Runs.{run_at, run_places, runs}

-- a byte of the field, or else of what stands between fields
abbrev pub stays : Bool → ℕ → Bool
stays of_field byte = if of_field then is_field_byte byte else not (is_field_byte byte)

-- where such bytes end, from a place on
abbrev pub run_end_in : Bool → List ℕ → ℕ → ℕ
run_end_in of_field line from = from + prefix_len (stays of_field) (drop from line)

-- the number of some digits and nothing else, where it is at most 2147483647
abbrev pub numeral_of : List ℕ → Option ℕ
numeral_of text = if is_numeral_up_to greatest_element text then Some (digits_value 10 text) else None

-- the first field that is no element, of a line whose byte 13 was dropped
abbrev pub stray_of : List ℕ → Option ℕ
stray_of line = find (λ field. is_none (element_of (run_at is_field_byte line field))) (run_places is_field_byte line)

abbrev pub elements_in : List ℕ → List ℤ
elements_in line = filter_map element_of (runs is_field_byte line)

-- a text that begins with a line, behind which no digit follows
pub record Continues (line rest : List ℕ) : Type 0 where
  pub within : length line ≤ length rest
  pub front : take (length line) rest ≡ line
  pub ends : is_ascii_digit (slice_index_or rest (length line) 0) ≡ false
