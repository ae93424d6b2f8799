-- The factors of a product.
use Rattle.std.proofs.Common.{◌≡◌, ◌≤◌, ◌*◌, ℕ, zero, suc, ℤ, true, List, length, map, refl, sym, ◌∙◌}
use Rattle.std.specs.List.{range_with_len}
use Rattle.std.proofs.lemmas.Bool.{and_parts, eqb-true, leb-true}
use Rattle.std.proofs.lemmas.List.{length-map}
use Rattle.std.proofs.lemmas.List.FromFn.{length-map-range_with_len}
use Rattle.std.specs.Prelude.{get_or, pos}
use Rattle.mr_grid.specs.Dense.{turned_of}
use Rattle.mr_items.specs.Grid.{columns_of, column}
use Rattle.mr_items.specs.MatrixProduct.{is_product_shape, most_elements}

pub rows_of_turned : (grid : List (List ℤ)) → length (turned_of grid) ≡ columns_of grid
rows_of_turned grid = length-map-range_with_len (column grid) 0 (columns_of grid)

-- the columns of a grid are as long as it has rows
columns_of_turned : (grid : List (List ℤ)) → (columns_of grid ≡ 0 → length grid ≡ 0) → length grid ≡ columns_of (turned_of grid)
columns_of_turned grid full = by (columns_of grid) refl
  where
    by : (c : ℕ) → columns_of grid ≡ c → length grid ≡ columns_of (map (column grid) (range_with_len 0 c))
    by zero e = full e
    by (suc n) e = sym (length-map grid (λ row. get_or row 0 (pos 0)))

module _ (left right : List (List ℤ)) (shape : is_product_shape left right ≡ true) where
  pub few_elements : length left * columns_of right ≤ most_elements
  few_elements = leb-true (length left * columns_of right) most_elements (and_parts _ _ shape).1

  pub alike : (columns_of right ≡ 0 → length right ≡ 0) → columns_of left ≡ columns_of (turned_of right)
  alike full = eqb-true (columns_of left) (length right) (and_parts _ _ shape).0 ∙ columns_of_turned right full
