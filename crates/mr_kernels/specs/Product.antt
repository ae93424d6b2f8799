-- The sum of the products of two rows.
use Rattle.std.specs.Prelude.{ℤ, ◌*ℤ◌, nat_le, if◌then◌else◌, List, map, zip, Option, Some, None}
use Rattle.mr_defs.specs.Folded.{limit, total, magnitude}

-- the numbers at the same place, multiplied
abbrev pub products : List ℤ → List ℤ → List ℤ
products xs ys = map (λ p. p.0 *ℤ p.1) (zip xs ys)

-- the sum of the products, where their magnitudes add up to no more than the limit
abbrev pub pair_sum_of : List ℤ → List ℤ → Option ℤ
pair_sum_of xs ys = if nat_le (magnitude (products xs ys)) limit then Some (total (products xs ys)) else None
