-- The means of the columns of a grid, and how the columns vary together, in two passes.
use Rattle.std.specs.Prelude.{ℕ, ◌+◌, ◌-◌, ◌*◌, ℤ, pos, ◌-ℤ◌, ◌*ℤ◌, List, [], ◌∷◌, ◌++◌, length, map, flat_map, get_or, decimal, codes}
use Rattle.std.specs.List.{range_with_len, enumerate_from}
use Rattle.std.specs.Int.{int_div_euclid}
use Rattle.mr_defs.specs.Emission.{Emission, Pair, Row}
use Rattle.mr_defs.specs.Rounds.{Next, again, ended}
use Rattle.mr_items.specs.Grid.{columns_of}
use Rattle.mr_items.specs.MatrixProduct.{sum_emits}
use Rattle.mr_items.specs.Texts.{line, spaced, number_at, fraction}

-- the first pass: what the row with this number emits, each element by its column; and what all rows do
abbrev pub column_emits : List (List ℤ) → ℕ → List (Emission ℕ ℤ)
column_emits grid i = map (λ e. Pair e.0 e.1) (enumerate_from 0 (get_or grid i []))

abbrev pub column_emissions : List (List ℤ) → List (Emission ℕ ℤ)
column_emissions grid = flat_map (column_emits grid) (range_with_len 0 (length grid))

-- the sum of each column divided by the number of rows, rounded down
abbrev pub column_means : List (Row ℕ) → ℕ → List ℤ
column_means rows points = map (λ row. int_div_euclid (get_or row.1 0 (pos 0)) (pos points)) rows

-- the pairs i, j of columns with i at most j, in order
abbrev pub column_couples : ℕ → List (ℕ × ℕ)
column_couples c = flat_map (λ i. map (λ j. (i, j)) (range_with_len i (c - i))) (range_with_len 0 c)

abbrev pub deviation : List ℤ → List ℤ → ℕ → ℤ
deviation means row j = get_or row j (pos 0) -ℤ get_or means j (pos 0)

-- the second pass: for each pair of columns the product of the row's two elements less their means; and what all rows emit
abbrev pub spread_emits : List ℤ → List (List ℤ) → ℕ → List (Emission ℕ ℤ)
spread_emits means grid i =
    let c = columns_of grid in
    let row = get_or grid i [] in
    flat_map (λ p. sum_emits (p.0 * c + p.1) ((deviation means row p.0 *ℤ deviation means row p.1) ∷ [])) (column_couples c)

abbrev pub spread_emissions : List ℤ → List (List ℤ) → List (Emission ℕ ℤ)
spread_emissions means grid = flat_map (spread_emits means grid) (range_with_len 0 (length grid))

-- a line for each mean, then one for each pair of columns with its sum over the number of rows less one
abbrev pub mean_line : ℕ × ℤ → List ℕ
mean_line e = line (codes "mean " ++ (decimal e.0 ++ spaced e.1))

abbrev pub couple_line : ℕ → ℕ → List (Row ℕ) → ℕ × ℕ → List ℕ
couple_line points c rows p =
    line (codes "cov " ++ (decimal p.0 ++ (32 ∷ decimal p.1 ++ (32 ∷ fraction (number_at rows (p.0 * c + p.1)) (pos (points - 1))))))

abbrev pub pca_text : ℕ → List ℤ → List (Row ℕ) → List ℕ
pca_text points means rows =
    flat_map mean_line (enumerate_from 0 means) ++ flat_map (couple_line points (length means) rows) (column_couples (length means))

-- the pass over the columns, or over their pairs with these means
pub data PcaState : Type 0 where
  columns : PcaState
  spread : List ℤ → PcaState

module _ (grid : List (List ℤ)) where
  abbrev pub pca_emissions : PcaState → List (Emission ℕ ℤ)
  pca_emissions columns = column_emissions grid
  pca_emissions (spread means) = spread_emissions means grid

  abbrev pub pca_next : PcaState → List (Row ℕ) → Next PcaState
  pca_next columns rows = again (spread (column_means rows (length grid)))
  pca_next (spread means) rows = ended (pca_text (length grid) means rows)
