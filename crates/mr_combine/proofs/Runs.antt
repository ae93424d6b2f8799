-- What the values of a run come to.
use Rattle.std.proofs.Common.{◌≡◌, ℕ, ◌+◌, ◌*◌, ◌<◌, ◌≤◌, ℤ, pos, ◌+ℤ◌, nat_abs, List, [], ◌∷◌, length, take, slice_get, Option, Some, sym}
use Rattle.std.proofs.Common.{refl, subst, inl, inr, ap, ◌∙◌, arith}
use Rattle.std.specs.Prelude.{◌^◌, ◌%◌, bit_or}
use Rattle.std.specs.Int.{int_wrap, w64}
use Rattle.std.proofs.lemmas.Int.{ints, int_wrap-add_left, int_wrap_fits, fits_signed_from_abs}
use Rattle.std.proofs.lemmas.Bool.{cases_lt}
use Rattle.std.proofs.lemmas.Bool.Decides.{nat_tests}
use Rattle.std.proofs.lemmas.List.Sums.{fold_more, sum_by_more}
use Rattle.std.proofs.lemmas.Nat.{le_or_l, le_or_r, mul-le}
use Rattle.std.proofs.lemmas.Option.{get_or_from_slice_get}
use Rattle.mr_defs.specs.Folded.{limit, total, magnitude}
use Rattle.mr_combine.specs.Bounded.{within}
use Rattle.mr_combine.specs.Runs.{added}
use Rattle.mr_combine.specs.Sums.{Summed, sum_commutative, sum_fits, sum_unit, sum_merged, sum_total, sums_join}

module _ (most : ℕ) where
  abbrev sums : List ℤ → Summed
  sums vs = (total vs, magnitude vs)

  -- one after the other, or the sums of all at once
  pub added_at_once : (c : Option Summed) (v : ℤ) (vs : List ℤ)
      → sum_merged most c (within (sum_fits most) (sums (v ∷ vs))) ≡ added (sum_unit most) (sum_merged most) c (v ∷ vs)
  added_at_once c v [] = ap (λ s. sum_merged most c (within (sum_fits most) s)) (sum_total.more v [] ∙ sum_total.one v)
  added_at_once c v (w ∷ ws) =
      ap (sum_merged most c) (ap (within (sum_fits most)) (sum_total.more v (w ∷ ws)) ∙ sym (sums_join most (v, nat_abs v) (sums (w ∷ ws))))
      ∙ sym ((sum_commutative most).assoc c (sum_unit most v) (within (sum_fits most) (sums (w ∷ ws))))
      ∙ added_at_once (sum_merged most c (sum_unit most v)) w ws

-- the sum is within the magnitudes
abs_add : (a b : ℤ) → nat_abs (a +ℤ b) ≤ nat_abs a + nat_abs b
abs_add a b = grind (arith, ints)

pub abs_total : (vs : List ℤ) → nat_abs (total vs) ≤ magnitude vs
abs_total [] = omega arith
abs_total (v ∷ vs) =
    omega (arith, ap (λ s. nat_abs s.0) (sum_total.more v vs), ap (λ s. s.1) (sum_total.more v vs), abs_add v (total vs), abs_total vs)

-- a run's next value
module _ {V : Type 0} (vs : List V) (i : ℕ) (v : V) (below : i < length vs) (is : slice_get vs i ≡ Some v) where
  pub added_more : {C : Type 0} (unit : V → C) (merged : C → C → C) (cell c : C) → c ≡ added unit merged cell (take i vs)
      → merged c (unit v) ≡ added unit merged cell (take (i + 1) vs)
  added_more unit merged cell c so =
      ap (λ x. merged x (unit v)) so
      ∙ ap (λ w. merged (added unit merged cell (take i vs)) (unit w)) (sym (get_or_from_slice_get vs i v v is))
      ∙ sym (fold_more (λ c v. merged c (unit v)) cell vs i v below)

module _ (vs : List ℤ) (i : ℕ) (v : ℤ) (below : i < length vs) (is : slice_get vs i ≡ Some v) where
  pub total_more : int_wrap w64 (int_wrap w64 (total (take i vs)) +ℤ v) ≡ int_wrap w64 (total (take (i + 1) vs))
  total_more =
      int_wrap-add_left w64 (total (take i vs)) v
      ∙ ap (int_wrap w64)
      (ap (λ w. total (take i vs) +ℤ w) (sym (get_or_from_slice_get vs i v v is)) ∙ sym (fold_more ◌+ℤ◌ (pos 0) vs i v below))

  magnitude_more : magnitude (take (i + 1) vs) ≡ magnitude (take i vs) + nat_abs v
  magnitude_more = sum_by_more nat_abs vs i v below ∙ ap (λ w. magnitude (take i vs) + nat_abs w) (get_or_from_slice_get vs i v v is)

  pub magnitudes_more : (m : ℕ) → (magnitude (take i vs) < 2 ^ 64 → m ≡ magnitude (take i vs)) → magnitude (take (i + 1) vs) < 2 ^ 64
      → (m + nat_abs v) % 2 ^ 64 ≡ magnitude (take (i + 1) vs)
  magnitudes_more m was few = omega (arith, magnitude_more, few, was (omega (arith, magnitude_more, few)))

  pub bound_more : (bound : ℕ) → magnitude (take i vs) ≤ i * bound → magnitude (take (i + 1) vs) ≤ (i + 1) * bit_or bound (nat_abs v)
  bound_more bound was =
      let next = bit_or bound (nat_abs v) in
      let front : i * bound ≤ i * next = mul-le i bound i next (omega arith) (le_or_l bound (nat_abs v)) in
      let split : (i + 1) * next ≡ i * next + next = omega arith in
      omega (arith, magnitude_more, was, front, split, le_or_r bound (nat_abs v))

-- a run whose magnitudes add up to less than 64 bits hold
module _ (vs : List ℤ) (count sum_bound m : ℕ) (s : ℤ) (size : count ≡ length vs) (some : 1 ≤ count) (few : count * sum_bound < 2 ^ 64)
    (bound : magnitude vs ≤ length vs * sum_bound) (sum : s ≡ int_wrap w64 (total vs))
    (magnitudes : magnitude vs < 2 ^ 64 → m ≡ magnitude vs) where
  exact : m ≡ magnitude vs
  exact = magnitudes (omega (arith, bound, few, ap (λ n. n * sum_bound) size))

  sum_is : magnitude vs ≤ limit → s ≡ total vs
  sum_is h = sum ∙ int_wrap_fits w64 (total vs) (fits_signed_from_abs w64 (total vs) (omega (arith, h, abs_total vs)))

  pub sum_within : m ≤ limit → nat_abs s ≤ m
  sum_within h = omega (arith, exact, h, ap nat_abs (sum_is (omega (arith, exact, h))), abs_total vs)

  at_once : (c : Option Summed) (l : List ℤ) → l ≡ vs
      → sum_merged limit c (within (sum_fits limit) (total vs, magnitude vs)) ≡ added (sum_unit limit) (sum_merged limit) c vs
  at_once c [] e = absurd (omega (arith, some, size, ap length e))
  at_once c (v ∷ ws) e = subst
      (λ l. sum_merged limit c (within (sum_fits limit) (total l, magnitude l)) ≡ added (sum_unit limit) (sum_merged limit) c l) e
      (added_at_once limit c v ws)

  -- past the limit the sum does not count
  same : within (sum_fits limit) (s, m) ≡ within (sum_fits limit) (total vs, magnitude vs)
  same = elim (cases_lt limit m) [
    | inl h ↦ grind (arith, nat_tests, exact, h)
    | inr h ↦ ap (within (sum_fits limit)) (λ i. (sum_is (omega (arith, exact, h)) i, exact i))
  ]

  pub run_at_once : (c : Option Summed)
      → sum_merged limit c (within (sum_fits limit) (s, m)) ≡ added (sum_unit limit) (sum_merged limit) c vs
  run_at_once c = ap (sum_merged limit c) same ∙ at_once c vs refl
