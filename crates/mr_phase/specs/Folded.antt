-- Entries, each a key with a cell, whose neighbours of one key are merged into one.
use Rattle.std.specs.Prelude.{if◌then◌else◌, List, [], ◌∷◌}
use Rattle.std.specs.declared.cmp.Ordering.{Ordering}
use Rattle.std.specs.Ordering.{eq_by_cmp}

module _ {K C : Type 0} (R : K → K → Ordering) (merged : C → C → C) where
  -- from the entry of a key on, with what its cell has come to
  abbrev pub fold_from : K → C → List (K × C) → List (K × C)
  fold_from k c [] = (k, c) ∷ []
  fold_from k c (e ∷ es) = if eq_by_cmp R k e.0 then fold_from k (merged c e.1) es else (k, c) ∷ fold_from e.0 e.1 es

  abbrev pub fold_equal : List (K × C) → List (K × C)
  fold_equal [] = []
  fold_equal (e ∷ es) = fold_from e.0 e.1 es
