-- Lines of a grid's text that were read, from one place up to another.
use Rattle.std.specs.Prelude.{◌≡◌, ◌<◌, ◌≤◌, ◌+◌, ◌-◌, ◌==◌, ℕ, ℤ, min, true, not, nat_lt, if◌then◌else◌, List, [], length, filter}
use Rattle.std.specs.Prelude.{filter_map, flat_map, slice_get, Option, Some, option_map}
use Rattle.std.specs.List.{range_with_len}
use Rattle.mr_items.specs.Grid.{row_at, row_fault, width_of}
use Rattle.mr_items.specs.declared.GridFault.{GridFault}
use Rattle.mr_items.specs.declared.GridFault.TheVariants as fault
use Rattle.mr_items.specs.Lines.{begins_line, fields, line_at}

-- the fault of a line at a place that has so many fields, of which this is the first that is no element, in a grid of so many columns
abbrev pub line_fault : ℕ → ℕ → Option ℕ → ℕ → Option GridFault
line_fault place count stray columns = if nat_lt 1024 count then Some (fault.Wide place)
    else (if not (count == columns) then Some (fault.Ragged place) else option_map (λ field. fault.Number (place + field)) stray)

-- the place of the line behind the one that begins here, or the length
abbrev pub next_line : List ℕ → ℕ → ℕ
next_line bytes at = min (at + length (line_at bytes at) + 1) (length bytes)

-- the lines with a field that begin from one place on and before another
abbrev pub rows_between : List ℕ → ℕ → ℕ → List ℕ
rows_between bytes from to =
    filter (λ place. nat_lt 0 (length (fields (line_at bytes place)))) (filter (begins_line bytes) (range_with_len from (to - from)))

-- the first fault of the lines that begin from a place on
abbrev pub fault_from : List ℕ → ℕ → Option GridFault
fault_from bytes from = slice_get (filter_map (row_fault bytes (width_of bytes)) (rows_between bytes from (length bytes))) 0

-- from the beginning of a line, or the end of the text, up to another
pub record IsPart (bytes : List ℕ) (from to : ℕ) : Type 0 where
  pub order : from ≤ to
  pub inside : to ≤ length bytes
  pub starts : from < length bytes → begins_line bytes from ≡ true
  pub ends : to < length bytes → begins_line bytes to ≡ true

-- the columns of the grid as they are known at a place: 0 as long as no row came before
pub record IsWidth (bytes : List ℕ) (at columns : ℕ) : Type 0 where
  pub known : 0 < columns → columns ≡ width_of bytes
  pub none : columns ≡ 0 → rows_between bytes 0 at ≡ []

-- none of the lines has a fault, and these are their numbers
pub record IsRead (bytes : List ℕ) (from at : ℕ) (numbers : List ℤ) (rows columns : ℕ) : Type 0 where
  pub begins : at < length bytes → begins_line bytes at ≡ true
  pub sound : filter_map (row_fault bytes (width_of bytes)) (rows_between bytes from at) ≡ []
  pub read : numbers ≡ flat_map (row_at bytes) (rows_between bytes from at)
  pub counted : rows ≡ length (rows_between bytes from at)
  pub width : IsWidth bytes at columns
