-- The lines of two columns.
use Rattle.std.specs.Prelude.{ℕ, ◌+◌, ◌-◌, ◌*◌, ℤ, pos, List, [], ◌∷◌, ◌++◌, flat_map, decimal, codes}
use Rattle.std.specs.List.{range_with_len}
use Rattle.mr_items.specs.Texts.{line, fraction}

-- what stands before the sum of two columns
abbrev pub couple_names : ℕ → ℕ → List ℕ
couple_names i j = codes "cov " ++ (decimal i ++ (32 ∷ decimal j ++ 32 ∷ []))

-- of two columns with this sum, of so many points
abbrev pub couple_text : ℕ → ℕ → ℕ → ℤ → List ℕ
couple_text points i j sum = line (couple_names i j ++ fraction sum (pos (points - 1)))

-- of a column with itself and each later one, of so many columns, whose sums are these by their keys
abbrev pub column_lines : ℕ → ℕ → (ℕ → ℤ) → ℕ → List ℕ
column_lines points c sum i = flat_map (λ j. couple_text points i j (sum (i * c + j))) (range_with_len i (c - i))
