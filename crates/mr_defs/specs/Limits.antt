-- Limits that several crates speak of.
use Rattle.std.specs.Prelude.{ℕ}

-- the greatest number of bytes of an input, and so of the items that it has
abbrev pub input_limit : ℕ
input_limit = 134217728

-- the greatest capacity of a container
abbrev pub greatest_capacity : ℕ
greatest_capacity = 65536

-- the greatest magnitude of a number of a grid
abbrev pub greatest_element : ℕ
greatest_element = 2147483647
