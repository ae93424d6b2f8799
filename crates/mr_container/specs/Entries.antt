-- Entries that are lent, each a key with a cell.
use Rattle.std.specs.Prelude.{if◌then◌else◌, List, map, Option, Some, None}
use Rattle.std.specs.Borrow.{Bor}
use Rattle.std.specs.declared.cmp.Ordering.{Ordering}
use Rattle.std.specs.Ordering.{eq_by_cmp}

-- the entries that are referred to
abbrev pub seen_of : {K C : Type 0} → List (Bor K × Bor C) → List (K × C)
seen_of es = map (λ e. (e.0.now, e.1.now)) es

-- the cell of an entry of this key
abbrev pub cell_in : {K C : Type 0} → (K → K → Ordering) → K → K × C → Option C
cell_in R q e = if eq_by_cmp R q e.0 then Some e.1 else None
