-- Products of narrow numbers, and their sums, fit in 32 bits.
use Rattle.std.proofs.Common.{◌≡◌, ◌≤◌, ◌<◌, ◌+◌, ◌*◌, ℕ, ℤ, ◌+ℤ◌, ◌*ℤ◌, nat_abs, ap₂, ap, sym, subst, ◌∙◌, arith, w32, to_z, of_z}
use Rattle.std.specs.Int.RustNames.{FitsSigned}
use Rattle.std.proofs.lemmas.Int.{to_z-of_z, unsigned_abs-mul, fits_signed_from_abs}
use Rattle.std.proofs.lemmas.Nat.{mul-le}
use Rattle.mr_kernels.proofs.Products.{abs_add}

kept : (z : ℤ) → nat_abs z < 2147483648 → to_z w32 (of_z w32 z) ≡ z
kept z h = to_z-of_z w32 z (fits_signed_from_abs w32 z h)

-- the sum of i products, and one more
module _ (s x y : ℤ) (i : ℕ) (left : nat_abs x ≤ 1448) (right : nat_abs y ≤ 1448) (few : nat_abs s ≤ i * 2096704) (below : i < 1024) where
  size : nat_abs (x *ℤ y) ≤ 2096704
  size = omega (arith, unsigned_abs-mul x y, mul-le (nat_abs x) (nat_abs y) 1448 1448 left right)

  product : to_z w32 (of_z w32 (to_z w32 (of_z w32 x) *ℤ to_z w32 (of_z w32 y))) ≡ x *ℤ y
  product = ap (λ z. to_z w32 (of_z w32 z)) (ap₂ (λ a b. a *ℤ b) (kept x (omega (arith, left))) (kept y (omega (arith, right))))
      ∙ kept (x *ℤ y) (omega (arith, size))

  pub product_fits : FitsSigned w32 (to_z w32 (of_z w32 x) *ℤ to_z w32 (of_z w32 y))
  product_fits =
      subst (FitsSigned w32) (sym (ap₂ (λ a b. a *ℤ b) (kept x (omega (arith, left))) (kept y (omega (arith, right)))))
      (fits_signed_from_abs w32 (x *ℤ y) (omega (arith, size)))

  pub next_few : nat_abs (s +ℤ x *ℤ y) ≤ (i + 1) * 2096704
  next_few = omega (arith, abs_add s (x *ℤ y), size, few)

  sum_fits : FitsSigned w32 (s +ℤ x *ℤ y)
  sum_fits = fits_signed_from_abs w32 (s +ℤ x *ℤ y) (omega (arith, next_few, below))

  pub next_fits : FitsSigned w32 (s +ℤ to_z w32 (of_z w32 (to_z w32 (of_z w32 x) *ℤ to_z w32 (of_z w32 y))))
  next_fits = rw product sum_fits

  pub next : to_z w32 (of_z w32 (s +ℤ to_z w32 (of_z w32 (to_z w32 (of_z w32 x) *ℤ to_z w32 (of_z w32 y))))) ≡ s +ℤ x *ℤ y
  next = rw product (to_z-of_z w32 (s +ℤ x *ℤ y) sum_fits)
