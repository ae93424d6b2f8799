-- Coordinates that are so small that the squares of up to 1024 of their differences add up to no more than 64 bits hold.
use Rattle.std.specs.Prelude.{◌≤◌, ℤ, nat_abs, List}
use Rattle.std.specs.List.{All}

abbrev pub AreShort : List ℤ → Type 0
AreShort zs = All (λ z. nat_abs z ≤ 67108863) zs
