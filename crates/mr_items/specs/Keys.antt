-- The order of byte keys, and which keys are inside a container.
use Rattle.std.specs.Prelude.{ℕ, Bool, true, nat_lt, List}
use Rattle.std.specs.declared.cmp.Ordering.{Ordering}
use Rattle.std.specs.Ordering.{nat_cmp}
use Rattle.std.specs.Cmp.Lexicographic.{slice_cmp}

-- bytes of a key from the first on; number keys stand in the order of numbers
abbrev pub byte_order : List ℕ → List ℕ → Ordering
byte_order = slice_cmp nat_cmp

-- a hash container has every key inside, an array those below its capacity
abbrev pub all_inside : {K : Type 0} → K → Bool
all_inside k = true

abbrev pub below : ℕ → ℕ → Bool
below capacity k = nat_lt k capacity
