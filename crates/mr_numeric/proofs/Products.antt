-- Numbers within the limit, and products of numbers whose magnitudes are at most 2147483647.
use Rattle.std.proofs.Common.{◌≡◌, ◌≤◌, ◌+◌, ◌*◌, ℤ, ◌-ℤ◌, ◌*ℤ◌, nat_abs, ap, ap₂, ◌∙◌, arith, w32, w64, to_z, of_z}
use Rattle.std.specs.Int.{w128}
use Rattle.std.specs.Int.RustNames.{FitsSigned}
use Rattle.std.proofs.lemmas.Int.{ints, to_z-of_z, unsigned_abs-mul, fits_signed_from_abs}
use Rattle.std.proofs.lemmas.Nat.{mul-le}
use Rattle.mr_defs.specs.Folded.{limit}
use Rattle.mr_defs.specs.Limits.{greatest_element}
use Rattle.mr_numeric.proofs.Quotients.{narrow_is}

-- a number within the limit is kept in 64 bits
pub kept : (x : ℤ) → nat_abs x ≤ limit → to_z w64 (of_z w64 x) ≡ x
kept x small = to_z-of_z w64 x (fits_signed_from_abs w64 x (omega (arith, small)))

module _ (x y : ℤ) (left : nat_abs x ≤ greatest_element) (right : nat_abs y ≤ greatest_element) where
  pub product_small : nat_abs (x *ℤ y) ≤ limit
  product_small = omega (arith, unsigned_abs-mul x y, mul-le (nat_abs x) (nat_abs y) greatest_element greatest_element left right)

  pub product_is : to_z w64 (of_z w64 (to_z w64 (of_z w64 x) *ℤ to_z w64 (of_z w64 y))) ≡ x *ℤ y
  product_is =
      rw (kept x (omega (arith, left)), kept y (omega (arith, right)))
      (kept (x *ℤ y) product_small)

-- two numbers within the limit, multiplied, and the difference of two such products
abbrev held : ℤ → ℤ
held z = to_z w128 (of_z w128 z)

pub kept_wide : (z : ℤ) → nat_abs z ≤ limit → held z ≡ z
kept_wide z small = to_z-of_z w128 z (fits_signed_from_abs w128 z (omega (arith, small)))

abs_sub : (a b : ℤ) → nat_abs (a -ℤ b) ≤ nat_abs a + nat_abs b
abs_sub a b = grind (arith, ints)

-- a number less a wider one, both small
module _ (x y : ℤ) (left : nat_abs x ≤ greatest_element) (right : nat_abs y ≤ greatest_element) where
  pub apart_small : nat_abs (x -ℤ y) ≤ 4294967294
  apart_small = omega (arith, abs_sub x y, left, right)

  pub apart_is : to_z w64 (of_z w64 (to_z w64 (of_z w64 (to_z w32 (of_z w32 x))) -ℤ to_z w64 (of_z w64 (held y)))) ≡ x -ℤ y
  apart_is =
      ap₂ (λ a b. to_z w64 (of_z w64 (a -ℤ b)))
      (ap (λ z. to_z w64 (of_z w64 z)) (narrow_is x left) ∙ kept x (omega (arith, left)))
      (ap (λ z. to_z w64 (of_z w64 z)) (kept_wide y (omega (arith, right))) ∙ kept y (omega (arith, right)))
      ∙ kept (x -ℤ y) (omega (arith, apart_small))

module _ (a b : ℤ) (left : nat_abs a ≤ limit) (right : nat_abs b ≤ limit) where
  wide_small : nat_abs (a *ℤ b) ≤ limit * limit
  wide_small = omega (arith, unsigned_abs-mul a b, mul-le (nat_abs a) (nat_abs b) limit limit left right)

  wide_is : held (held a *ℤ held b) ≡ a *ℤ b
  wide_is =
      rw (kept_wide a left, kept_wide b right)
      (to_z-of_z w128 (a *ℤ b) (fits_signed_from_abs w128 (a *ℤ b) (omega (arith, wide_small))))

module _ (a b c d : ℤ) (p : nat_abs a ≤ limit) (q : nat_abs b ≤ limit) (r : nat_abs c ≤ limit) (s : nat_abs d ≤ limit) where
  fits : FitsSigned w128 (a *ℤ b -ℤ c *ℤ d)
  fits = fits_signed_from_abs w128 (a *ℤ b -ℤ c *ℤ d) (omega (arith, abs_sub (a *ℤ b) (c *ℤ d), wide_small a b p q, wide_small c d r s))

  pub difference_fits : FitsSigned w128 (held (held a *ℤ held b) -ℤ held (held c *ℤ held d))
  difference_fits = rw (wide_is a b p q, wide_is c d r s) fits

  pub difference_is : held (held (held a *ℤ held b) -ℤ held (held c *ℤ held d)) ≡ a *ℤ b -ℤ c *ℤ d
  difference_is = rw (wide_is a b p q, wide_is c d r s) (to_z-of_z w128 (a *ℤ b -ℤ c *ℤ d) fits)

  -- the same of numbers that were handed over
  pub difference_kept : held a *ℤ held b -ℤ held c *ℤ held d ≡ a *ℤ b -ℤ c *ℤ d
  difference_kept = ap₂ ◌-ℤ◌ (ap₂ ◌*ℤ◌ (kept_wide a p) (kept_wide b q)) (ap₂ ◌*ℤ◌ (kept_wide c r) (kept_wide d s))
