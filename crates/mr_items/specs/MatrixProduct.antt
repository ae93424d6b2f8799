-- The product of two grids, an item for each row of the left and each column of the right.
use Rattle.std.specs.Prelude.{ℕ, ◌*◌, ◌/◌, ◌%◌, ℤ, ◌*ℤ◌, Bool, ◌&&◌, ◌==◌, nat_le, if◌then◌else◌, List, [], ◌∷◌, length, map, zip, flat_map}
use Rattle.std.specs.Prelude.{get_or}
use Rattle.std.specs.List.{range_with_len}
use Rattle.mr_defs.specs.Emission.{Emission, Pair, TooLarge}
use Rattle.mr_defs.specs.Folded.{limit, total, magnitude}
use Rattle.mr_items.specs.Grid.{columns_of, column}

-- the greatest number of elements of a product
abbrev pub most_elements : ℕ
most_elements = 16777216

-- a row of the left is as long as a column of the right
abbrev pub is_product_shape : List (List ℤ) → List (List ℤ) → Bool
is_product_shape left right = (columns_of left == length right) && nat_le (length left * columns_of right) most_elements

abbrev pub products : List ℤ → List ℤ → List ℤ
products xs ys = map (λ p. p.0 *ℤ p.1) (zip xs ys)

-- the sum of these numbers, where their magnitudes add up to no more than the limit
abbrev pub sum_emits : ℕ → List ℤ → List (Emission ℕ ℤ)
sum_emits k vs = (if nat_le (magnitude vs) limit then Pair k (total vs) else TooLarge k) ∷ []

-- item k stands for row k / p and column k % p, of p columns; and what all items emit
abbrev pub matrix_product_emits : List (List ℤ) → List (List ℤ) → ℕ → List (Emission ℕ ℤ)
matrix_product_emits left right k =
    let p = columns_of right in sum_emits k (products (get_or left (k / p) []) (column right (k % p)))

abbrev pub matrix_product_emissions : List (List ℤ) → List (List ℤ) → List (Emission ℕ ℤ)
matrix_product_emissions left right = flat_map (matrix_product_emits left right) (range_with_len 0 (length left * columns_of right))
