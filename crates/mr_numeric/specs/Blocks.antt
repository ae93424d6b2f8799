-- Blocks of rows, read column by column.
use Rattle.std.specs.Prelude.{◌≤◌, ℕ, ◌+◌, ◌-◌, ◌*◌, ℤ, ◌*ℤ◌, nat_abs, List, [], length, get_or, map, flat_map, zip}
use Rattle.std.specs.List.{All, range_with_len}
use Rattle.mr_defs.specs.Emission.{Emission}
use Rattle.mr_container.specs.Block.{run_emissions}
use Rattle.mr_items.specs.Pca.{deviation}

-- what the elements of a column differ from its mean by, in so many rows from one on
abbrev pub deviations_of : List ℤ → List (List ℤ) → ℕ → ℕ → ℕ → List ℤ
deviations_of means grid from count j = map (λ r. deviation means (get_or grid r []) j) (range_with_len from count)

abbrev pub block_of : List ℤ → List (List ℤ) → ℕ → ℕ → List (List ℤ)
block_of means grid from count = map (deviations_of means grid from count) (range_with_len 0 (length means))

-- no magnitude is over the greatest that 32 bits hold
abbrev pub AreMild : List ℤ → Type 0
AreMild zs = All (λ z. nat_abs z ≤ 2147483647) zs

-- the numbers of two columns in the same row, multiplied
abbrev pub products_of : List ℤ → List ℤ → List ℤ
products_of left right = map (λ p. p.0 *ℤ p.1) (zip left right)

-- what a column emits with another one, and with each from itself on
abbrev pub couple_run : List (List ℤ) → ℕ → ℕ → List (Emission ℕ ℤ)
couple_run columns i j = run_emissions (i * length columns + j) (products_of (get_or columns i []) (get_or columns j []))

abbrev pub column_runs : List (List ℤ) → ℕ → List (Emission ℕ ℤ)
column_runs columns i = flat_map (couple_run columns i) (range_with_len i (length columns - i))
