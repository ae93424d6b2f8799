-- The rows that are taken from lists.
use Rattle.std.specs.Prelude.{ℕ, List, [], ◌∷◌, ◌++◌, take, drop, slice_index_or, slice_set}

-- by these numbers of lists, each the first row that is left of its list
abbrev pub taken_rows : {X : Type 0} → List (List X) → List ℕ → List X
taken_rows lists [] = []
taken_rows lists (i ∷ plan) =
    take 1 (slice_index_or lists i []) ++ taken_rows (slice_set lists i (drop 1 (slice_index_or lists i []))) plan
