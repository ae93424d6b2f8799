-- Distances, coordinate by coordinate.
use Rattle.std.proofs.Common.{◌≡◌, ◌≤◌, ◌<◌, ◌+◌, ◌*◌, ℕ, ℤ, pos, ◌-ℤ◌, nat_abs, List, length, get_or, take, zip, ap, ◌∙◌, arith, w32, to_z}
use Rattle.std.proofs.Common.{of_z}
use Rattle.std.specs.Prelude.{sum_by}
use Rattle.std.proofs.lemmas.List.{take_all}
use Rattle.std.proofs.lemmas.List.Sums.{sum_by_more}
use Rattle.std.proofs.lemmas.Slice.Zip.{length-zip, get_or-zip}
use Rattle.std.proofs.lemmas.Int.{ints}
use Rattle.mr_items.specs.KMeans.{distance}
use Rattle.mr_numeric.proofs.Quotients.{narrow_is}

-- the sum over the first coordinates
abbrev pub distance_to : List ℤ → List ℤ → ℕ → ℕ
distance_to p m i = sum_by (λ e. nat_abs (e.0 -ℤ e.1) * nat_abs (e.0 -ℤ e.1)) (take i (zip p m))

module _ (p m : List ℤ) (alike : length p ≡ length m) where
  pub distance_more : (i : ℕ) → i < length p
      → distance_to p m (i + 1)
      ≡ distance_to p m i + nat_abs (get_or p i (pos 0) -ℤ get_or m i (pos 0)) * nat_abs (get_or p i (pos 0) -ℤ get_or m i (pos 0))
  distance_more i below =
      sum_by_more (λ e. nat_abs (e.0 -ℤ e.1) * nat_abs (e.0 -ℤ e.1)) (zip p m) i (pos 0, pos 0) (omega (arith, length-zip p m, below))
      ∙ ap (λ (e : ℤ × ℤ). distance_to p m i + nat_abs (e.0 -ℤ e.1) * nat_abs (e.0 -ℤ e.1))
      (get_or-zip p m i (pos 0, pos 0) below (omega arith))

  pub distance_all : (i : ℕ) → length p ≤ i → distance_to p m i ≡ distance p m
  distance_all i past =
      ap (sum_by (λ (e : ℤ × ℤ). nat_abs (e.0 -ℤ e.1) * nat_abs (e.0 -ℤ e.1))) (take_all i (zip p m) (omega (arith, length-zip p m, past)))

abs_sub : (a b : ℤ) → nat_abs (a -ℤ b) ≤ nat_abs a + nat_abs b
abs_sub a b = grind (arith, ints)

-- the difference of short coordinates, in 32 bits
module _ (x y : ℤ) (left : nat_abs x ≤ 67108863) (right : nat_abs y ≤ 67108863) where
  pub apart_small : nat_abs (x -ℤ y) ≤ 134217726
  apart_small = omega (arith, abs_sub x y, left, right)

  pub apart_is : to_z w32 (of_z w32 (to_z w32 (of_z w32 x) -ℤ to_z w32 (of_z w32 y))) ≡ x -ℤ y
  apart_is = rw (narrow_is x (omega (arith, left)), narrow_is y (omega (arith, right))) (narrow_is (x -ℤ y) (omega (arith, apart_small)))
