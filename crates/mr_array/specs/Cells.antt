-- An array of cells, read by key.
use Rattle.std.specs.Prelude.{ℕ, ◌+◌, Bool, List, [], ◌∷◌, Option, Some, None, filter, nat_lt, is_some, slice_index_or, length}

-- the key is a place of an array of n places
abbrev pub is_below : ℕ → ℕ → Bool
is_below n k = nat_lt k n

module _ {C : Type 0} where
  -- the cell of a key, none past the end
  abbrev pub cell_under : List (Option C) → ℕ → Option C
  cell_under cells k = slice_index_or cells k None

  -- how many places have a cell
  abbrev pub filled : List (Option C) → ℕ
  filled cells = length (filter (λ c. is_some c) cells)

  -- the keys and cells of places that are numbered from here on
  abbrev pub numbered : ℕ → List (Option C) → List (ℕ × C)
  numbered place [] = []
  numbered place (None ∷ cells) = numbered (place + 1) cells
  numbered place (Some c ∷ cells) = (place, c) ∷ numbered (place + 1) cells
