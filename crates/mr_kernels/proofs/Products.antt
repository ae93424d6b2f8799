-- The products of two rows, one by one: their sum, their magnitudes, and that each sum fits.
use Rattle.std.proofs.Common.{◌≡◌, ◌≤◌, ◌<◌, ◌+◌, ◌*◌, ℕ, ℤ, pos, ◌+ℤ◌, ◌*ℤ◌, nat_abs, if◌then◌else◌, List, length, take, zip, get_or, Some}
use Rattle.std.proofs.Common.{None, ap, subst, sym, ◌∙◌, arith, w64, to_z, of_z}
use Rattle.std.specs.Int.RustNames.{FitsSigned}
use Rattle.std.specs.List.{All}
use Rattle.std.proofs.lemmas.Bool.{le-leb, lt-leb}
use Rattle.std.proofs.lemmas.Int.{ints, to_z-of_z, unsigned_abs-mul, fits_signed_from_abs}
use Rattle.std.proofs.lemmas.List.{length-map, get_or-map, take_all}
use Rattle.std.proofs.lemmas.List.Elements.{All-get_or, All-from_get_or}
use Rattle.std.proofs.lemmas.List.Sums.{fold_more, sum_by_more, sum_by-take-le, sum_by-le}
use Rattle.std.proofs.lemmas.Nat.{mul-le}
use Rattle.std.proofs.lemmas.Slice.Zip.{length-zip, get_or-zip}
use Rattle.mr_defs.specs.Folded.{limit, total, magnitude}
use Rattle.mr_kernels.specs.Product.{products, pair_sum_of}

pub abs_add : (a b : ℤ) → nat_abs (a +ℤ b) ≤ nat_abs a + nat_abs b
abs_add a b = grind (arith, ints)

-- a sum whose magnitudes stay within the limit fits
module _ (s p : ℤ) (within : nat_abs s + nat_abs p ≤ limit) where
  term : to_z w64 (of_z w64 p) ≡ p
  term = to_z-of_z w64 p (fits_signed_from_abs w64 p (omega arith))

  sum_fits : FitsSigned w64 (s +ℤ p)
  sum_fits = fits_signed_from_abs w64 (s +ℤ p) (omega (arith, abs_add s p))

  pub added_fits : FitsSigned w64 (s +ℤ to_z w64 (of_z w64 p))
  added_fits = rw term sum_fits

  pub added : to_z w64 (of_z w64 (s +ℤ to_z w64 (of_z w64 p))) ≡ s +ℤ p
  added = rw term (to_z-of_z w64 (s +ℤ p) sum_fits)

module _ (xs ys : List ℤ) (same : length xs ≡ length ys) where
  pub length-products : length (products xs ys) ≡ length xs
  length-products = length-map (zip xs ys) (λ p. p.0 *ℤ p.1) ∙ omega (arith, length-zip xs ys)

  get_or-products : (i : ℕ) → i < length xs → get_or (products xs ys) i (pos 0) ≡ get_or xs i (pos 0) *ℤ get_or ys i (pos 0)
  get_or-products i h =
      get_or-map (λ p. p.0 *ℤ p.1) (zip xs ys) i (pos 0, pos 0) (pos 0) (omega (arith, length-zip xs ys))
      ∙ ap (λ (p : ℤ × ℤ). p.0 *ℤ p.1) (get_or-zip xs ys i (pos 0, pos 0) h (omega arith))

  pub total_more : (i : ℕ) → i < length xs
      → total (take (i + 1) (products xs ys)) ≡ total (take i (products xs ys)) +ℤ get_or xs i (pos 0) *ℤ get_or ys i (pos 0)
  total_more i h = fold_more ◌+ℤ◌ (pos 0) (products xs ys) i (pos 0) (omega (arith, length-products))
      ∙ ap (λ z. total (take i (products xs ys)) +ℤ z) (get_or-products i h)

  pub magnitude_more : (i : ℕ) → i < length xs
      → magnitude (take (i + 1) (products xs ys))
      ≡ magnitude (take i (products xs ys)) + nat_abs (get_or xs i (pos 0) *ℤ get_or ys i (pos 0))
  magnitude_more i h = sum_by_more nat_abs (products xs ys) i (pos 0) (omega (arith, length-products))
      ∙ ap (λ z. magnitude (take i (products xs ys)) + nat_abs z) (get_or-products i h)

  -- the size of the next product, as the code adds it
  pub sizes_more : (i sizes size : ℕ) (p : ℤ) → i < length xs → FitsSigned w64 p → p ≡ get_or xs i (pos 0) *ℤ get_or ys i (pos 0)
      → sizes ≡ magnitude (take i (products xs ys)) → size ≡ nat_abs (to_z w64 (of_z w64 p))
      → sizes + size ≡ magnitude (take (i + 1) (products xs ys))
  sizes_more i sizes size p h fits is so_far e =
      omega (arith, magnitude_more i h, ap nat_abs is, ap nat_abs (to_z-of_z w64 p fits), so_far, e)

  pub all_products : (i : ℕ) → length xs ≤ i → take i (products xs ys) ≡ products xs ys
  all_products i h = take_all i (products xs ys) (omega (arith, length-products))

  -- the two answers
  pub pair_sum-within : magnitude (products xs ys) ≤ limit → Some (total (products xs ys)) ≡ pair_sum_of xs ys
  pair_sum-within h = sym (ap (λ b. if b then Some (total (products xs ys)) else None) (le-leb (magnitude (products xs ys)) limit h))

  pub pair_sum-past : (i : ℕ) → limit < magnitude (take i (products xs ys)) → None ≡ pair_sum_of xs ys
  pair_sum-past i h = sym (ap (λ b. if b then Some (total (products xs ys)) else None)
      (lt-leb (magnitude (products xs ys)) limit (omega (arith, h, sum_by-take-le nat_abs (products xs ys) i))))

  -- rows whose magnitudes are bounded
  module _ (left right : ℕ) (in_left : All (λ z. nat_abs z ≤ left) xs) (in_right : All (λ z. nat_abs z ≤ right) ys) where
    pub product_bound : (i : ℕ) → i < length xs → nat_abs (get_or xs i (pos 0) *ℤ get_or ys i (pos 0)) ≤ left * right
    product_bound i h =
        let x : nat_abs (get_or xs i (pos 0)) ≤ left = All-get_or (λ z. nat_abs z ≤ left) xs i (pos 0) h in_left in
        let y : nat_abs (get_or ys i (pos 0)) ≤ right = All-get_or (λ z. nat_abs z ≤ right) ys i (pos 0) (omega arith) in_right in
        omega (
          arith,
          unsigned_abs-mul (get_or xs i (pos 0)) (get_or ys i (pos 0)),
          mul-le (nat_abs (get_or xs i (pos 0))) (nat_abs (get_or ys i (pos 0))) left right x y,
        )

    pub magnitude_bound : magnitude (products xs ys) ≤ length xs * (left * right)
    magnitude_bound =
        let each : All (λ z. nat_abs z ≤ left * right) (products xs ys) = All-from_get_or (λ z. nat_abs z ≤ left * right) (products xs ys)
        (pos 0) (λ i h. subst (λ z. nat_abs z ≤ left * right) (sym (get_or-products i (omega (arith, h, length-products))))
        (product_bound i (omega (arith, h, length-products)))) in
        subst (λ n. magnitude (products xs ys) ≤ n * (left * right)) length-products
        (sum_by-le nat_abs (left * right) (products xs ys) each)
