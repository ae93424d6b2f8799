-- Pairs of a number key and a number.
use Rattle.std.specs.Prelude.{ℕ, ◌+◌, ◌*◌, ◌/◌, ◌%◌, ℤ, ◌*ℤ◌, List, [], ◌∷◌, length, get_or, Option, Some, None}
use Rattle.mr_defs.specs.Emission.{Emission, Pair, TooLarge}
use Rattle.mr_items.specs.MatrixProduct.{products, sum_emits}
use Rattle.mr_items.specs.Pca.{deviation}

-- the emission of a pair
abbrev pub pair_of : ℕ × ℤ → List (Emission ℕ ℤ)
pair_of p = Pair p.0 p.1 ∷ []

-- that of a sum, or of one that is too large
abbrev pub sum_of : ℕ → Option ℤ → List (Emission ℕ ℤ)
sum_of key (Some sum) = Pair key sum ∷ []
sum_of key None = TooLarge key ∷ []

-- what the pair with this number emits, of a row of one grid and a row of another
abbrev pub row_pair_emits : List (List ℤ) → List (List ℤ) → ℕ → List (Emission ℕ ℤ)
row_pair_emits left right k = sum_emits k (products (get_or left (k / length right) []) (get_or right (k % length right) []))

-- the product of what two elements of a row differ from their means by
abbrev pub couple_emits : List ℤ → List ℤ → ℕ → ℕ → List (Emission ℕ ℤ)
couple_emits means row i j = sum_emits (i * length row + j) ((deviation means row i *ℤ deviation means row j) ∷ [])
