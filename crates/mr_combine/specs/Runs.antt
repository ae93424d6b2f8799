-- A run of values, one after the other.
use Rattle.std.specs.Prelude.{List, fold}

-- the cell with those of the values merged into it
abbrev pub added : {V C : Type 0} → (V → C) → (C → C → C) → C → List V → C
added unit merged cell vs = fold (λ c v. merged c (unit v)) cell vs
