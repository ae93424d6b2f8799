-- The first place that passes a test, looked for in blocks.
use Rattle.std.proofs.Common.{◌≡◌, ◌+◌, ◌*◌, ◌≤◌, ◌<◌, ℕ, suc, zero, Bool, true, false, not, cond, List, [], ◌∷◌, length, take, drop, map}
use Rattle.std.proofs.Common.{ap, refl, ◌∙◌, arith}
use Rattle.std.specs.List.{position_or_len}
use Rattle.std.specs.Int.Count.{count_trailing_zeros}
use Rattle.std.specs.Simd.Lanes.{mask_l, chunk}
use Rattle.std.proofs.lemmas.Bool.{ne_eqb}
use Rattle.std.proofs.lemmas.List.Sums.{prefix_len-le-length}
use Rattle.std.proofs.lemmas.List.{drop-drop, length-drop}
use Rattle.std.proofs.lemmas.Simd.{first_set_mask_l, leading_from_mask_l, length-chunk}

-- a front that has no place which passes is passed over; one that has such a place holds the first
front_none : (p : ℕ → Bool) (n : ℕ) (xs : List ℕ) → position_or_len p (take n xs) ≡ n
    → position_or_len p xs ≡ n + position_or_len p (drop n xs)
front_none p zero xs e = omega arith
front_none p (suc n) [] e = absurd (omega arith)
front_none p (suc n) (x ∷ xs) e =
    step (p x) (position_or_len p (take n xs)) n (position_or_len p xs) (position_or_len p (drop n xs)) e (front_none p n xs)
  where
    step : (b : Bool) (t n a r : ℕ) → cond (not b) (1 + t) 0 ≡ suc n → (t ≡ n → a ≡ n + r) → cond (not b) (1 + a) 0 ≡ suc n + r
    step true t n a r e h = absurd (omega arith)
    step false t n a r e h = let same : a ≡ n + r = h (omega arith) in omega arith

front_some : (p : ℕ → Bool) (n : ℕ) (xs : List ℕ) → position_or_len p (take n xs) < n → n ≤ length xs
    → position_or_len p xs ≡ position_or_len p (take n xs)
front_some p zero xs h le = absurd (omega arith)
front_some p (suc n) [] h le = absurd (omega arith)
front_some p (suc n) (x ∷ xs) h le =
    step (p x) (position_or_len p (take n xs)) n (position_or_len p xs) h (λ k. front_some p n xs k (omega arith))
  where
    step : (b : Bool) (t n a : ℕ) → cond (not b) (1 + t) 0 < suc n → (t < n → a ≡ t) → cond (not b) (1 + a) 0 ≡ cond (not b) (1 + t) 0
    step true t n a h k = refl
    step false t n a h k = let same : a ≡ t = k (omega arith) in omega arith

-- where no lane passes, no bit is set
none_set : (p : ℕ → Bool) (xs : List ℕ) → length xs ≤ position_or_len p xs → mask_l (map p xs) ≡ 0
none_set p [] e = refl
none_set p (x ∷ xs) e = step (p x) (length xs) (position_or_len p xs) (mask_l (map p xs)) e (none_set p xs)
  where
    step : (b : Bool) (n r m : ℕ) → suc n ≤ cond (not b) (1 + r) 0 → (n ≤ r → m ≡ 0) → cond b 1 0 + 2 * m ≡ 0
    step true n r m e h = absurd (omega arith)
    step false n r m e h = let same : m ≡ 0 = h (omega arith) in omega arith

-- a mask with no bit passes over its block; any other names the first place
pub block_none : (p : ℕ → Bool) (xs : List ℕ) (at n : ℕ) → at + n ≤ length xs → mask_l (map p (chunk at n xs)) ≡ 0
    → (at + n) + position_or_len p (drop (at + n) xs) ≡ at + position_or_len p (drop at xs)
block_none p xs at n room empty =
    let size : length (chunk at n xs) ≡ n = length-chunk at n xs room in
    let all : position_or_len p (take n (drop at xs)) ≡ n = leading_from_mask_l p (chunk at n xs) empty ∙ size in
    let rest : position_or_len p (drop n (drop at xs)) ≡ position_or_len p (drop (at + n) xs) =
    ap (position_or_len p) (drop-drop n at xs) in
    omega (arith, front_none p n (drop at xs) all)

pub block_some : (p : ℕ → Bool) (xs : List ℕ) (at n mask : ℕ) → at + n ≤ length xs → n ≤ 64 → mask ≡ mask_l (map p (chunk at n xs))
    → (mask ≡ 0 → ⊥) → at + count_trailing_zeros 64 mask ≡ at + position_or_len p (drop at xs)
block_some p xs at n mask room few is some =
    let size : length (chunk at n xs) ≡ n = length-chunk at n xs room in
    let counted : count_trailing_zeros 64 mask ≡ position_or_len p (chunk at n xs) =
    rw (← is, ne_eqb mask 0 some) at (first_set_mask_l p (chunk at n xs) n size few) in
    let most = prefix_len-le-length (λ b. not (p b)) (chunk at n xs) in
    let inside : position_or_len p (chunk at n xs)
    < n = below (position_or_len p (chunk at n xs)) (omega (arith, most, size))
    (λ e. some (is ∙ none_set p (chunk at n xs) (omega (arith, e, size)))) in
    omega (arith, front_some p n (drop at xs) inside (omega (arith, length-drop at xs)))
  where
    below : (r : ℕ) → r ≤ n → (r ≡ n → ⊥) → r < n
    below r le ne = omega arith

pub first_within : (p : ℕ → Bool) (xs : List ℕ) (from : ℕ) → from ≤ length xs → from + position_or_len p (drop from xs) ≤ length xs
first_within p xs from h = omega (arith, length-drop from xs, prefix_len-le-length (λ b. not (p b)) (drop from xs))
