-- Sums divided by the number of terms.
use Rattle.std.proofs.Common.{◌≡◌, ◌≤◌, ◌<◌, ℕ, ◌*◌, ℤ, pos, negsuc, ◌≤ℤ◌, nat_abs, List, get_or, w32, to_z, of_z, arith}
use Rattle.std.specs.Int.{int_div_euclid}
use Rattle.std.specs.List.{All}
use Rattle.std.proofs.Math.Nat.{div-lt_iff_lt-mul}
use Rattle.std.proofs.lemmas.Int.{ints, to_z-of_z, fits_signed_from_abs}
use Rattle.std.proofs.lemmas.List.Elements.{All-map, All-weaker}
use Rattle.mr_defs.specs.Emission.{Row}
use Rattle.mr_defs.specs.Limits.{greatest_element}
use Rattle.mr_items.specs.Pca.{column_means}
use Rattle.mr_numeric.specs.Sums.{IsColumnSum}

-- of terms whose magnitude is at most 2147483647
pub quotient_small : (sum count : ℤ) → pos 1 ≤ℤ count → nat_abs sum ≤ greatest_element * nat_abs count
    → nat_abs (int_div_euclid sum count) ≤ greatest_element
quotient_small (pos a) (pos n) some small =
    let more : 0 < n = grind (arith, ints) in
    let bound : a < 2147483648 * n = omega (arith, small, more) in
    omega (arith, (div-lt_iff_lt-mul more).1 bound)
quotient_small (negsuc a) (pos n) some small =
    let more : 0 < n = grind (arith, ints) in
    let bound : a < greatest_element * n = omega (arith, small) in
    omega (arith, (div-lt_iff_lt-mul more).1 bound)
quotient_small sum (negsuc n) some small = absurd (grind (arith, ints))

pub narrow_is : (z : ℤ) → nat_abs z ≤ greatest_element → to_z w32 (of_z w32 z) ≡ z
narrow_is z small = to_z-of_z w32 z (fits_signed_from_abs w32 z (omega (arith, small)))

-- the means of columns
pub means_small : (points : ℕ) (rows : List (Row ℕ)) → All (IsColumnSum points) rows
    → All (λ z. nat_abs z ≤ greatest_element) (column_means rows points)
means_small points rows sums =
    All-map (λ z. nat_abs z ≤ greatest_element) (λ (row : Row ℕ). int_div_euclid (get_or row.1 0 (pos 0)) (pos points)) rows
    (All-weaker (IsColumnSum points) (λ row. nat_abs (int_div_euclid (get_or row.1 0 (pos 0)) (pos points)) ≤ greatest_element)
    (λ row s. quotient_small (get_or row.1 0 (pos 0)) (pos points) (grind (arith, ints, s.some)) s.small) rows sums)
