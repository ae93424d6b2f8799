-- Grids as they are read.
use Rattle.std.specs.Prelude.{◌≡◌, ◌≤◌, ℤ, nat_abs, List, length}
use Rattle.std.specs.List.{All}
use Rattle.mr_defs.specs.Limits.{greatest_element}
use Rattle.mr_items.specs.Grid.{columns_of}

-- rows of one length, of numbers whose magnitude is at most 2147483647
pub record IsEven (grid : List (List ℤ)) : Type 0 where
  pub even : All (λ row. length row ≡ columns_of grid) grid
  pub small : All (All (λ z. nat_abs z ≤ greatest_element)) grid
