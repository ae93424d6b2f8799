-- Masks of up to 64 bits as the lists of their bits, the lowest first.
use Rattle.std.proofs.Common.{◌≡◌, ◌≤◌, ◌<◌, ◌+◌, ◌-◌, ◌*◌, ◌/◌, ◌%◌, ◌^◌, ◌==◌, ℕ, zero, suc, Bool, true, false, not, cond, List, [], ◌∷◌}
use Rattle.std.proofs.Common.{length, take, drop, map, refl, sym, ap, ap₂, ◌∙◌, arith, bit_and, bit_xor, mod-lt}
use Rattle.std.specs.Int.Bits.{and_self}
use Rattle.std.specs.Int.Count.{count_trailing_zeros}
use Rattle.std.specs.List.{prefix_len}
use Rattle.std.specs.Simd.Lanes.{mask_l, zip2}
use Rattle.std.proofs.Math.Nat.{pow-succ', mul_assoc, add-mul-mod_self_left}
use Rattle.std.proofs.lemmas.List.{length-take-le, take-take, map-id}
use Rattle.std.proofs.lemmas.Nat.{xor_block, and_block, xor_mod, pow_pos}
use Rattle.std.proofs.lemmas.Simd.{mask_l-mod, trailing_mask_l}
use Rattle.mr_kernels.specs.Edges.{bits, set_places}

-- whether two bits differ
abbrev pub differs : Bool → Bool → Bool
differs b c = cond c (not b) b

-- the same list without its first bit that is set
abbrev pub cleared : List Bool → List Bool
cleared [] = []
cleared (b ∷ bs) = cond b (false ∷ bs) (false ∷ cleared bs)

abbrev bit : Bool → ℕ
bit b = cond b 1 0

small : (b : Bool) → bit b < 2 ^ 1
small true = omega arith
small false = omega arith

doubled : (b : Bool) (n : ℕ) → cond b 1 0 + 2 * n ≡ n * 2 ^ 1 + bit b
doubled b n = omega arith

xor_bits : (b c : Bool) → bit_xor (bit b) (bit c) ≡ bit (differs b c)
xor_bits true true = refl
xor_bits true false = refl
xor_bits false true = refl
xor_bits false false = refl

xor_masks : (bs cs : List Bool) → length bs ≡ length cs → bit_xor (mask_l bs) (mask_l cs) ≡ mask_l (zip2 differs bs cs)
xor_masks [] [] h = refl
xor_masks [] (c ∷ cs) h = absurd (omega arith)
xor_masks (b ∷ bs) [] h = absurd (omega arith)
xor_masks (b ∷ bs) (c ∷ cs) h =
    ap₂ bit_xor (doubled b (mask_l bs)) (doubled c (mask_l cs))
    ∙ xor_block 1 (mask_l bs) (mask_l cs) (bit b) (bit c) (small b) (small c)
    ∙ ap₂ (λ m n. m * 2 ^ 1 + n) (xor_masks bs cs (omega arith)) (xor_bits b c)
    ∙ sym (doubled (differs b c) (mask_l (zip2 differs bs cs)))

split : (n : ℕ) (bs : List Bool) → mask_l bs ≡ mask_l (take n bs) + 2 ^ n * mask_l (drop n bs)
split zero bs = omega arith
split (suc n) [] = sym (ap (λ k. 0 + k) (zeros (2 ^ suc n)))
  where
    zeros : (k : ℕ) → k * 0 ≡ 0
    zeros k = omega arith
split (suc n) (b ∷ bs) =
    let p = 2 ^ n in
    let rest : 2 ^ suc n * mask_l (drop n bs) ≡ 2 * (p * mask_l (drop n bs)) =
    ap (λ k. k * mask_l (drop n bs)) (pow-succ' 2 n) ∙ mul_assoc 2 p (mask_l (drop n bs)) in
    omega (arith, rest, split n bs)

-- a mask of few bits is small
pub below : (k : ℕ) (bs : List Bool) → length bs ≤ k → mask_l bs < 2 ^ k
below k bs h = rw (sym (mask_l-mod bs k h)) (mod-lt (mask_l bs) (pow_pos k))

short : (n : ℕ) (bs : List Bool) → length (take n bs) ≤ n
short zero bs = omega arith
short (suc n) [] = omega arith
short (suc n) (b ∷ bs) = let h = short n bs in omega (arith, h)

pub front : (n : ℕ) (bs : List Bool) → mask_l bs % 2 ^ n ≡ mask_l (take n bs)
front n bs = ap (λ m. m % 2 ^ n) (split n bs) ∙ add-mul-mod_self_left (mask_l (take n bs)) (2 ^ n) (mask_l (drop n bs))
    ∙ mask_l-mod (take n bs) n (short n bs)

-- bits behind a front play no part
front_zip : (n : ℕ) (bs cs : List Bool) → zip2 differs (take n bs) (take n cs) ≡ zip2 differs (take n bs) cs
front_zip zero bs cs = refl
front_zip (suc n) [] cs = refl
front_zip (suc n) (b ∷ bs) [] = refl
front_zip (suc n) (b ∷ bs) (c ∷ cs) = ap (λ ds. differs b c ∷ ds) (front_zip n bs cs)

-- a mask beside itself moved up by one bit, with the one before it carried in: the bits that change
module _ (c : Bool) (bs : List Bool) (n : ℕ) (inside : n ≤ length bs) (few : n ≤ 64) where
  carried : (mask_l bs * 2) % 2 ^ 64 + bit c ≡ mask_l (take 64 (c ∷ bs))
  carried = by c ∙ front 64 (c ∷ bs)
    where
      by : (d : Bool) → (mask_l bs * 2) % 2 ^ 64 + bit d ≡ (cond d 1 0 + 2 * mask_l bs) % 2 ^ 64
      by true = omega arith
      by false = omega arith

  cut : take n (c ∷ take n bs) ≡ take n (c ∷ bs)
  cut = go n bs
    where
      go : (k : ℕ) (ds : List Bool) → take k (c ∷ take k ds) ≡ take k (c ∷ ds)
      go zero ds = refl
      go (suc k) ds = ap (λ es. c ∷ es) (take-take k (suc k) ds (omega arith))

  pub changes : bit_xor (mask_l bs) ((mask_l bs * 2) % 2 ^ 64 + bit c) % 2 ^ n ≡ mask_l (zip2 differs (take n bs) (c ∷ take n bs))
  changes =
      ap (λ m. bit_xor (mask_l bs) m % 2 ^ n) carried
      ∙ xor_mod (mask_l bs) (mask_l (take 64 (c ∷ bs))) n
      ∙ ap₂ bit_xor (front n bs) (front n (take 64 (c ∷ bs)) ∙ ap mask_l (take-take n 64 (c ∷ bs) few))
      ∙ xor_masks (take n bs) (take n (c ∷ bs)) (length-take-le n bs inside ∙ sym (length-take-le n (c ∷ bs) (omega (arith, inside))))
      ∙ ap mask_l (ap (zip2 differs (take n bs)) (sym cut) ∙ front_zip n bs (c ∷ take n bs))

-- a number is the mask of its bits, and the bits of a mask are set where its list is
mask_bits : (k n : ℕ) → n < 2 ^ k → mask_l (bits k n) ≡ n
unfolding bits
mask_bits zero n h = omega (arith, h)
mask_bits (suc k) n h =
    let less : n / 2 < 2 ^ k = let e = pow-succ' 2 k in omega (arith, e, h) in
    ap (λ m. cond (n % 2 == 1) 1 0 + 2 * m) (mask_bits k (n / 2) less) ∙ by (n % 2) refl
  where
    by : (r : ℕ) → n % 2 ≡ r → cond (r == 1) 1 0 + 2 * (n / 2) ≡ n
    by zero e = omega (arith, e)
    by (suc zero) e = omega (arith, e)
    by (suc (suc r)) e = absurd (omega (arith, e))

-- the bits that are set, one after the other
pub few_places : (k : ℕ) (bs : List Bool) → length (set_places k bs) ≤ length bs
few_places k [] = omega arith
few_places k (b ∷ bs) = by b (few_places (k + 1) bs)
  where
    by : (c : Bool) → length (set_places (k + 1) bs) ≤ length bs
        → length (cond c (k ∷ set_places (k + 1) bs) (set_places (k + 1) bs)) ≤ suc (length bs)
    by true h = omega (arith, h)
    by false h = omega (arith, h)

pub no_places : (k : ℕ) (bs : List Bool) → mask_l bs ≡ 0 → set_places k bs ≡ []
no_places k [] e = refl
no_places k (b ∷ bs) e = by b e (no_places (k + 1) bs)
  where
    by : (c : Bool) → cond c 1 0 + 2 * mask_l bs ≡ 0 → (mask_l bs ≡ 0 → set_places (k + 1) bs ≡ [])
        → cond c (k ∷ set_places (k + 1) bs) (set_places (k + 1) bs) ≡ []
    by true e h = absurd (omega (arith, e))
    by false e h = h (omega (arith, e))

pub length-cleared : (bs : List Bool) → length (cleared bs) ≡ length bs
length-cleared [] = refl
length-cleared (b ∷ bs) = by b (length-cleared bs)
  where
    by : (c : Bool) → length (cleared bs) ≡ length bs → length (cond c (false ∷ bs) (false ∷ cleared bs)) ≡ suc (length bs)
    by true h = refl
    by false h = ap suc h

pub mask_cleared : (bs : List Bool) → 0 < mask_l bs → mask_l (cleared bs) ≡ bit_and (mask_l bs) (mask_l bs - 1)
mask_cleared [] h = absurd (omega (arith, h))
mask_cleared (b ∷ bs) h = value b ∙ by b (mask_l bs) (mask_l (cleared bs)) h (mask_cleared bs)
  where
    value : (c : Bool)
        → mask_l (cond c (false ∷ bs) (false ∷ cleared bs)) ≡ cond c (mask_l bs * 2 ^ 1 + 0) (mask_l (cleared bs) * 2 ^ 1 + 0)
    value true = omega arith
    value false = omega arith

    by : (c : Bool) (m k : ℕ) → 0 < cond c 1 0 + 2 * m → (0 < m → k ≡ bit_and m (m - 1))
        → cond c (m * 2 ^ 1 + 0) (k * 2 ^ 1 + 0) ≡ bit_and (cond c 1 0 + 2 * m) (cond c 1 0 + 2 * m - 1)
    by true m k h less =
        let one : 1 + 2 * m ≡ m * 2 ^ 1 + 1 = omega arith in
        let none : 1 + 2 * m - 1 ≡ m * 2 ^ 1 + 0 = omega arith in
        sym (ap₂ bit_and one none ∙ and_block 1 m m 1 0 (omega arith) (omega arith) ∙ ap (λ j. j * 2 ^ 1 + 0) (and_self m))
    by false m k h less =
        let some : 0 < m = omega (arith, h) in
        let all : 0 + 2 * m ≡ m * 2 ^ 1 + 0 = omega arith in
        let before : 0 + 2 * m - 1 ≡ (m - 1) * 2 ^ 1 + 1 = omega (arith, some) in
        ap (λ j. j * 2 ^ 1 + 0) (less some) ∙ sym (ap₂ bit_and all before ∙ and_block 1 m (m - 1) 0 1 (omega arith) (omega arith))

-- the first place
first_place : (k : ℕ) (bs : List Bool) → 0 < mask_l bs → set_places k bs ≡ (k + prefix_len not bs) ∷ set_places k (cleared bs)
first_place k [] h = absurd (omega (arith, h))
first_place k (b ∷ bs) h = by b h (first_place (k + 1) bs)
  where
    by : (c : Bool) → 0 < cond c 1 0 + 2 * mask_l bs
        → (0 < mask_l bs → set_places (k + 1) bs ≡ (k + 1 + prefix_len not bs) ∷ set_places (k + 1) (cleared bs))
        → cond c (k ∷ set_places (k + 1) bs) (set_places (k + 1) bs)
        ≡ (k + cond (not c) (1 + prefix_len not bs) 0) ∷ set_places k (cond c (false ∷ bs) (false ∷ cleared bs))
    by true h rest = ap (λ j. j ∷ set_places (k + 1) bs) (omega arith)
    by false h rest = rest (omega (arith, h)) ∙ ap (λ j. j ∷ set_places (k + 1) (cleared bs)) (omega arith)

pub next_place : (k : ℕ) (bs : List Bool) → 0 < mask_l bs → length bs ≤ 64
    → set_places k bs ≡ (k + count_trailing_zeros 64 (mask_l bs)) ∷ set_places k (cleared bs)
next_place k bs h few =
    first_place k bs h
    ∙ ap (λ j. (k + j) ∷ set_places k (cleared bs))
    (sym (ap (λ cs. count_trailing_zeros 64 (mask_l cs)) (sym (map-id bs)) ∙ trailing_mask_l (λ b. b) 64 bs few (ap_less h)))
  where
    ap_less : 0 < mask_l bs → 0 < mask_l (map (λ b. b) bs)
    ap_less h = rw (map-id bs) h

pub same_places : (k base : ℕ) (bs : List Bool) → length bs ≤ k → set_places base (bits k (mask_l bs)) ≡ set_places base bs
unfolding bits
same_places zero base [] h = refl
same_places zero base (b ∷ bs) h = absurd (omega (arith, h))
same_places (suc k) base [] h = no_places base (bits (suc k) 0) (mask_bits (suc k) 0 (pow_pos (suc k)))
same_places (suc k) base (b ∷ bs) h =
    ap₂ (λ c ds. cond c (base ∷ ds) ds) (lowest b (mask_l bs))
    (ap (λ m. set_places (base + 1) (bits k m)) (rest b (mask_l bs)) ∙ same_places k (base + 1) bs (omega (arith, h)))
  where
    lowest : (c : Bool) (m : ℕ) → ((cond c 1 0 + 2 * m) % 2 == 1) ≡ c
    lowest true m = let e : (1 + 2 * m) % 2 ≡ 1 = omega arith in ap (λ r. r == 1) e
    lowest false m = let e : (0 + 2 * m) % 2 ≡ 0 = omega arith in ap (λ r. r == 1) e

    rest : (c : Bool) (m : ℕ) → (cond c 1 0 + 2 * m) / 2 ≡ m
    rest true m = omega arith
    rest false m = omega arith

-- the places of the bits of a number: none of 0; of any other the lowest, and then those of the number without its lowest bit
module _ (base n : ℕ) (fits : n < 2 ^ 64) where
  is : mask_l (bits 64 n) ≡ n
  is = mask_bits 64 n fits

  length-bits : (k m : ℕ) → length (bits k m) ≡ k
  unfolding bits
  length-bits zero m = refl
  length-bits (suc k) m = ap suc (length-bits k (m / 2))

  pub few : length (set_places base (bits 64 n)) ≤ 64
  few = let size = length-bits 64 n in omega (arith, few_places base (bits 64 n), size)

  pub none : n ≡ 0 → set_places base (bits 64 n) ≡ []
  none e = no_places base (bits 64 n) (is ∙ e)

  pub lowest_first : 0 < n
      → set_places base (bits 64 n) ≡ (base + count_trailing_zeros 64 n) ∷ set_places base (bits 64 (bit_and n (n - 1)))
  lowest_first h =
      let some : 0 < mask_l (bits 64 n) = omega (arith, is, h) in
      let size = length-bits 64 n in
      let clear : mask_l (cleared (bits 64 n)) ≡ bit_and n (n - 1) = mask_cleared (bits 64 n) some ∙ ap (λ m. bit_and m (m - 1)) is in
      next_place base (bits 64 n) some (omega (arith, size))
      ∙ ap₂ (λ j js. (base + j) ∷ js) (ap (count_trailing_zeros 64) is)
      (sym (same_places 64 base (cleared (bits 64 n)) (omega (arith, length-cleared (bits 64 n), size)))
      ∙ ap (λ m. set_places base (bits 64 m)) clear)

  -- where such a number is noted in a list with room for 64 places more, the list has room for the next
  pub room : (at from whole size : ℕ) → 0 < n → whole < 2 ^ 64
      → at + length (set_places base (bits 64 n)) ≡ from + length (set_places base (bits 64 whole)) → from + 64 ≤ size → at < size
  room at from whole size some fits same h = let one = ap length (lowest_first some) in omega (arith, one, same, h, few_of whole fits)
    where
      few_of : (m : ℕ) → m < 2 ^ 64 → length (set_places base (bits 64 m)) ≤ 64
      few_of m fits = let size = length-bits 64 m in omega (arith, few_places base (bits 64 m), size)
