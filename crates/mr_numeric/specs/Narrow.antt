-- Grids of numbers whose products can be added in 32 bits.
use Rattle.std.specs.Prelude.{◌≤◌, ℤ, nat_abs, List}
use Rattle.std.specs.List.{All}

-- no magnitude is over 1448
abbrev pub AreNarrow : List (List ℤ) → Type 0
AreNarrow rows = All (All (λ z. nat_abs z ≤ 1448)) rows
