-- Grids whose numbers stand in one list, row after row.
use Rattle.std.specs.Prelude.{◌≡◌, ◌≤◌, ◌+◌, ◌*◌, ℕ, ℤ, pos, nat_abs, List, length, map, slice_index_or}
use Rattle.std.specs.Fork.{slice_chunk}
use Rattle.std.specs.List.{All, range_with_len}
use Rattle.mr_defs.specs.Limits.{greatest_element}
use Rattle.mr_items.specs.Grid.{column, columns_of}

-- so many rows of so many numbers each
abbrev pub rows_of : List ℤ → ℕ → ℕ → List (List ℤ)
rows_of numbers columns rows = map (slice_chunk numbers columns) (range_with_len 0 rows)

pub record IsDense (numbers : List ℤ) (columns rows : ℕ) : Type 0 where
  pub size : length numbers ≡ rows * columns
  pub bounded : All (λ z. nat_abs z ≤ greatest_element) numbers
  pub no_columns : rows ≡ 0 → columns ≡ 0
  pub no_rows : columns ≡ 0 → rows ≡ 0

-- the numbers at one place of each row
abbrev pub column_in : List ℤ → ℕ → ℕ → ℕ → List ℤ
column_in numbers columns rows j = map (λ r. slice_index_or numbers (r * columns + j) (pos 0)) (range_with_len 0 rows)

-- the grid whose rows are the columns of another
abbrev pub turned_of : List (List ℤ) → List (List ℤ)
turned_of grid = map (column grid) (range_with_len 0 (columns_of grid))
