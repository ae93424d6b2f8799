-- The sums of a line through points, and the text of its slope and intercept.
use Rattle.std.specs.Prelude.{ℕ, ℤ, pos, ◌-ℤ◌, ◌*ℤ◌, Bool, ◌||◌, ◌==◌, List, [], ◌∷◌, ◌++◌, length, flat_map, get_or, codes}
use Rattle.std.specs.List.{range_with_len}
use Rattle.mr_defs.specs.Emission.{Emission, Pair, Row}
use Rattle.mr_items.specs.Grid.{columns_of}
use Rattle.mr_items.specs.Texts.{line, spaced, number_at, fraction}

-- a grid that has rows has two columns
abbrev pub is_regression_shape : List (List ℤ) → Bool
is_regression_shape grid = (length grid == 0) || (columns_of grid == 2)

-- how many points, their sums, the sums of their squares, and the sum of the products
abbrev pub point_emits : ℤ → ℤ → List (Emission ℕ ℤ)
point_emits x y =
    Pair 0 (pos 1) ∷ Pair 1 x ∷ Pair 2 y ∷ Pair 3 (x *ℤ x) ∷ Pair 4 (y *ℤ y) ∷ Pair 5 (x *ℤ y) ∷ []

-- what the row with this number emits; and what all rows do
abbrev pub linear_regression_emits : List (List ℤ) → ℕ → List (Emission ℕ ℤ)
linear_regression_emits grid i = let row = get_or grid i [] in point_emits (get_or row 0 (pos 0)) (get_or row 1 (pos 0))

abbrev pub linear_regression_emissions : List (List ℤ) → List (Emission ℕ ℤ)
linear_regression_emissions grid = flat_map (linear_regression_emits grid) (range_with_len 0 (length grid))

abbrev pub named : List ℕ → ℤ → List ℕ
named name z = line (name ++ spaced z)

-- the six sums, then the slope and the intercept as fractions that are not reduced
abbrev pub regression_lines : ℤ → ℤ → ℤ → ℤ → ℤ → ℤ → List ℕ
regression_lines n sx sy sxx syy sxy =
    let d = (n *ℤ sxx) -ℤ (sx *ℤ sx) in
    let p = (n *ℤ sxy) -ℤ (sx *ℤ sy) in
    let q = (sy *ℤ sxx) -ℤ (sx *ℤ sxy) in
    named (codes "n") n ++ (named (codes "sx") sx ++ (named (codes "sy") sy
    ++ (named (codes "sxx") sxx ++ (named (codes "syy") syy ++ (named (codes "sxy") sxy
    ++ (line (codes "slope " ++ fraction p d) ++ line (codes "intercept " ++ fraction q d)))))))

abbrev pub regression_text : List (Row ℕ) → List ℕ
regression_text rows =
    regression_lines (number_at rows 0) (number_at rows 1) (number_at rows 2) (number_at rows 3) (number_at rows 4) (number_at rows 5)
