-- Blocks of lanes inside a slice, and masks over their lanes.
use Rattle.std.proofs.Common.{◌≡◌, ◌==◌, ◌&&◌, ◌||◌, nat_le, cond, Bool, true, false, not, ◌+◌, ◌-◌, ◌*◌, ◌%◌, ◌^◌, ℕ, List, [], ◌∷◌}
use Rattle.std.proofs.Common.{length, take, drop, map, ap, ap₂, sym, refl, ◌∙◌, arith, bit_and, bit_or, count_by}
use Rattle.std.specs.Simd.Lanes.{mask_l, zip2, top}
use Rattle.std.proofs.Math.ListN.{replicate}
use Rattle.std.proofs.Math.Nat.{pow-succ'}
use Rattle.std.proofs.Math.Seq.{take-add}
use Rattle.std.proofs.lemmas.List.{length-map}
use Rattle.std.proofs.lemmas.List.Sums.{sum_by-append}
use Rattle.std.proofs.lemmas.Simd.{zip2_splat, zip2_splat_left, zip2_of_maps, mask_l-mod, map-map}
use Rattle.mr_items.specs.Lines.{is_field_byte}
use Rattle.mr_items.specs.Words.{is_word_byte}

-- a front that is n elements longer has as many more as these n have
pub count_by-take-add : (p : ℕ → Bool) (xs : List ℕ) (i n : ℕ)
    → count_by p (take (i + n) xs) ≡ count_by p (take i xs) + count_by p (take n (drop i xs))
count_by-take-add p xs i n = ap (count_by p) (take-add i n xs) ∙ sum_by-append _ (take i xs) (take n (drop i xs))

abbrev lane : Bool → ℕ
lane b = cond b 255 0

or_lanes : (a b : Bool) → bit_or (lane a) (lane b) ≡ lane (a || b)
or_lanes true true = refl
or_lanes true false = refl
or_lanes false true = refl
or_lanes false false = refl

and_lanes : (a b : Bool) → bit_and (lane a) (lane b) ≡ lane (a && b)
and_lanes true true = refl
and_lanes true false = refl
and_lanes false true = refl
and_lanes false false = refl

top_lane : (b : Bool) → top 7 (lane b) ≡ b
top_lane true = refl
top_lane false = refl

same_map : {X Y : Type 0} (f g : X → Y) → ((x : X) → f x ≡ g x) → (xs : List X) → map f xs ≡ map g xs
same_map f g h [] = refl
same_map f g h (x ∷ xs) = ap₂ (λ (y : _) (ys : List _). y ∷ ys) (h x) (same_map f g h xs)

-- a mask and that of the bytes which fail its test have each bit once
masks_of_all : (p : ℕ → Bool) (xs : List ℕ) → mask_l (map p xs) + mask_l (map (λ x. not (p x)) xs) + 1 ≡ 2 ^ length xs
masks_of_all p [] = refl
masks_of_all p (x ∷ xs) =
    step (p x) (mask_l (map p xs)) (mask_l (map (λ y. not (p y)) xs)) (2 ^ length xs) (masks_of_all p xs) ∙ sym (pow-succ' 2 (length xs))
  where
    step : (b : Bool) (m n e : ℕ) → m + n + 1 ≡ e → (cond b 1 0 + 2 * m) + (cond (not b) 1 0 + 2 * n) + 1 ≡ 2 * e
    step true m n e h = omega arith
    step false m n e h = omega arith

-- a full mask without the bits of those that fail
pub others : (p : ℕ → Bool) (xs : List ℕ) (n : ℕ) → length xs ≡ 64 → n ≡ mask_l (map p xs)
    → (2 ^ 64 - 1) - n ≡ mask_l (map (λ x. not (p x)) xs)
others p xs n size is =
    let all : mask_l (map p xs) + mask_l (map (λ x. not (p x)) xs) + 1 ≡ 2 ^ 64 = masks_of_all p xs ∙ ap (λ k. 2 ^ k) size in
    omega (arith, all, is)

pub not_blank : (xs : List ℕ) → map (λ x. not ((x == 32) || (x == 9))) xs ≡ map is_field_byte xs
not_blank xs = same_map (λ x. not ((x == 32) || (x == 9))) is_field_byte (λ x. by (x == 32) (x == 9)) xs
  where
    by : (s t : Bool) → not (s || t) ≡ (not s && not t)
    by true t = refl
    by false t = refl

module _ (xs : List ℕ) (size : length xs ≡ 64) where
  at_least : (k : ℕ) → zip2 (λ a b. lane (nat_le a b)) (replicate 64 k) xs ≡ map (λ x. lane (nat_le k x)) xs
  at_least k = zip2_splat_left (λ a b. lane (nat_le a b)) k 64 xs size

  at_most : (k : ℕ) → zip2 (λ a b. lane (nat_le a b)) xs (replicate 64 k) ≡ map (λ x. lane (nat_le x k)) xs
  at_most k = zip2_splat (λ a b. lane (nat_le a b)) xs 64 k size

  equal : (k : ℕ) → zip2 (λ a b. lane (a == b)) xs (replicate 64 k) ≡ map (λ x. lane (x == k)) xs
  equal k = zip2_splat (λ a b. lane (a == b)) xs 64 k size

  either : (p q : ℕ → Bool) (ps qs : List ℕ) → ps ≡ map (λ x. lane (p x)) xs → qs ≡ map (λ x. lane (q x)) xs
      → zip2 bit_or ps qs ≡ map (λ x. lane (p x || q x)) xs
  either p q ps qs e f = zip2_of_maps bit_or (λ x. lane (p x)) (λ x. lane (q x)) xs e f ∙ same_map _ _ (λ x. or_lanes (p x) (q x)) xs

  both : (p q : ℕ → Bool) (ps qs : List ℕ) → ps ≡ map (λ x. lane (p x)) xs → qs ≡ map (λ x. lane (q x)) xs
      → zip2 bit_and ps qs ≡ map (λ x. lane (p x && q x)) xs
  both p q ps qs e f = zip2_of_maps bit_and (λ x. lane (p x)) (λ x. lane (q x)) xs e f ∙ same_map _ _ (λ x. and_lanes (p x) (q x)) xs

  mask_of_lanes : (p : ℕ → Bool) (ps : List ℕ) → ps ≡ map (λ x. lane (p x)) xs → mask_l (map (top 7) ps) % 2 ^ 64 ≡ mask_l (map p xs)
  mask_of_lanes p ps e =
      let tops : map (top 7) ps ≡ map p xs =
      ap (map (top 7)) e ∙ map-map (top 7) (λ x. lane (p x)) xs ∙ same_map _ _ (λ x. top_lane (p x)) xs in
      let small : length (map p xs) ≡ 64 = length-map xs p ∙ size in
      ap (λ ms. mask_l ms % 2 ^ 64) tops ∙ mask_l-mod (map p xs) 64 (omega arith)

  pub word_lanes : mask_l (map (top 7) (zip2 bit_or
      (zip2 bit_and (zip2 (λ a b. lane (nat_le a b)) (replicate 64 48) xs) (zip2 (λ a b. lane (nat_le a b)) xs (replicate 64 57)))
      (zip2 bit_or
      (zip2 bit_and (zip2 (λ a b. lane (nat_le a b)) (replicate 64 65) xs) (zip2 (λ a b. lane (nat_le a b)) xs (replicate 64 90)))
      (zip2 bit_or
      (zip2 bit_and (zip2 (λ a b. lane (nat_le a b)) (replicate 64 97) xs) (zip2 (λ a b. lane (nat_le a b)) xs (replicate 64 122)))
      (zip2 bit_or (zip2 (λ a b. lane (a == b)) xs (replicate 64 39)) (zip2 (λ a b. lane (nat_le a b)) (replicate 64 128) xs)))))) % 2 ^ 64
      ≡ mask_l (map is_word_byte xs)
  word_lanes = mask_of_lanes is_word_byte _
      (either (λ x. nat_le 48 x && nat_le x 57)
      (λ x. (nat_le 65 x && nat_le x 90) || ((nat_le 97 x && nat_le x 122) || ((x == 39) || nat_le 128 x))) _ _
      (both (λ x. nat_le 48 x) (λ x. nat_le x 57) _ _ (at_least 48) (at_most 57))
      (either (λ x. nat_le 65 x && nat_le x 90) (λ x. (nat_le 97 x && nat_le x 122) || ((x == 39) || nat_le 128 x)) _ _
      (both (λ x. nat_le 65 x) (λ x. nat_le x 90) _ _ (at_least 65) (at_most 90))
      (either (λ x. nat_le 97 x && nat_le x 122) (λ x. (x == 39) || nat_le 128 x) _ _
      (both (λ x. nat_le 97 x) (λ x. nat_le x 122) _ _ (at_least 97) (at_most 122))
      (either (λ x. x == 39) (λ x. nat_le 128 x) _ _ (equal 39) (at_least 128)))))

  pub blank_lanes : mask_l
      (map (top 7) (zip2 bit_or (zip2 (λ a b. lane (a == b)) xs (replicate 64 32)) (zip2 (λ a b. lane (a == b)) xs (replicate 64 9))))
      % 2 ^ 64 ≡ mask_l (map (λ x. (x == 32) || (x == 9)) xs)
  blank_lanes = mask_of_lanes (λ x. (x == 32) || (x == 9)) _ (either (λ x. x == 32) (λ x. x == 9) _ _ (equal 32) (equal 9))
