-- The passes over a grid.
use Rattle.std.specs.Prelude.{◌≡◌, ◌≤◌, ℤ, nat_abs, List, length, Option, Some, None}
use Rattle.std.specs.List.{All}
use Rattle.mr_defs.specs.Limits.{greatest_element}
use Rattle.mr_items.specs.Grid.{columns_of}
use Rattle.mr_items.specs.Pca.{PcaState, columns, spread}

-- that over the columns, or with their means that over their pairs
abbrev pub pass_of : Option (List ℤ) → PcaState
pass_of None = columns
pass_of (Some means) = spread means

-- the means are those of the columns of this grid
abbrev pub IsPassOver : List (List ℤ) → PcaState → Type 0
IsPassOver grid columns = Unit {0}
IsPassOver grid (spread means) = (length means ≡ columns_of grid) × All (λ z. nat_abs z ≤ greatest_element) means
