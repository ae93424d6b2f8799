-- How many digits stand in front of sixteen lanes.
use Rattle.std.proofs.Common.{◌≡◌, ℕ, zero, suc, ◌+◌, ◌≤◌, ◌%◌, ◌^◌, Bool, true, false, not, ◌||◌, ◌&&◌, cond, nat_lt, nat_le, List, []}
use Rattle.std.proofs.Common.{◌∷◌, length, map, drop, bit_or, inl, inr, ap, ap₂, sym, refl, ◌∙◌, arith}
use Rattle.std.proofs.Math.ListN.{replicate}
use Rattle.std.specs.Char.{is_ascii_digit}
use Rattle.std.specs.List.{prefix_len}
use Rattle.std.specs.Int.Count.{count_trailing_zeros}
use Rattle.std.specs.Simd.Lanes.{mask_l, zip2, top, chunk}
use Rattle.std.proofs.lemmas.Bool.{cases_lt, lt-ltb, le-ltb, le-leb, lt-leb}
use Rattle.std.proofs.lemmas.List.{length-map}
use Rattle.std.proofs.lemmas.Simd.{zip2_splat, zip2_splat_left, zip2_of_maps, mask_l-mod, map-map}
use Rattle.mr_kernels.proofs.Scans.{block_some}

abbrev lane : Bool → ℕ
lane b = cond b 255 0

or_lanes : (a b : Bool) → bit_or (lane a) (lane b) ≡ lane (a || b)
or_lanes true true = refl
or_lanes true false = refl
or_lanes false true = refl
or_lanes false false = refl

top_lane : (b : Bool) → top 7 (lane b) ≡ b
top_lane true = refl
top_lane false = refl

same_map : {X Y : Type 0} (f g : X → Y) → ((x : X) → f x ≡ g x) → (xs : List X) → map f xs ≡ map g xs
same_map f g h [] = refl
same_map f g h (x ∷ xs) = ap₂ (λ (y : _) (ys : List _). y ∷ ys) (h x) (same_map f g h xs)

-- no digit
abbrev pub is_other : ℕ → Bool
is_other x = nat_lt x 48 || nat_lt 57 x

pub others_of : (xs : List ℕ) → length xs ≡ 16
    → mask_l (map (top 7) (zip2 bit_or (zip2 (λ a b. lane (nat_lt a b)) xs (replicate 16 48))
    (zip2 (λ a b. lane (nat_lt a b)) (replicate 16 57) xs))) % 2 ^ 64 ≡ mask_l (map is_other xs)
others_of xs size =
    let below = zip2_splat (λ a b. lane (nat_lt a b)) xs 16 48 size in
    let above = zip2_splat_left (λ a b. lane (nat_lt a b)) 57 16 xs size in
    let both = zip2_of_maps bit_or (λ x. lane (nat_lt x 48)) (λ x. lane (nat_lt 57 x)) xs below above
    ∙ same_map _ _ (λ x. or_lanes (nat_lt x 48) (nat_lt 57 x)) xs in
    let tops : map (top 7) _ ≡ map is_other xs =
    ap (map (top 7)) both ∙ map-map (top 7) (λ x. lane (is_other x)) xs ∙ same_map _ _ (λ x. top_lane (is_other x)) xs in
    let small : length (map is_other xs) ≡ 16 = length-map xs is_other ∙ size in
    ap (λ ms. mask_l ms % 2 ^ 64) tops ∙ mask_l-mod (map is_other xs) 64 (omega (arith, small))

no_other : (x : ℕ) → not (is_other x) ≡ is_ascii_digit x
no_other x = elim (cases_lt x 48) [
  | inl low ↦ ap (λ t. not (t || nat_lt 57 x)) (lt-ltb x 48 low) ∙ sym (ap (λ t. t && nat_le x 57) (lt-leb 48 x low))
  | inr high ↦ elim (cases_lt 57 x) [
    | inl past ↦ ap₂ (λ s t. not (s || t)) (le-ltb x 48 high) (lt-ltb 57 x past)
        ∙ sym (ap₂ (λ s t. s && t) (le-leb 48 x high) (lt-leb x 57 past))
    | inr within ↦ ap₂ (λ s t. not (s || t)) (le-ltb x 48 high) (le-ltb 57 x within)
        ∙ sym (ap₂ (λ s t. s && t) (le-leb 48 x high) (le-leb x 57 within))
  ]
]

no_bit : count_trailing_zeros 64 0 ≡ 64
unfolding count_trailing_zeros
no_bit = refl

-- the lowest bit of the others' mask counts the digits in front of it
pub front_is : (xs : List ℕ) (at n : ℕ) → at + 16 ≤ length xs → n ≡ count_trailing_zeros 64 (mask_l (map is_other (chunk at 16 xs)))
    → n ≤ 8 → n ≡ prefix_len is_ascii_digit (drop at xs)
front_is xs at n room is few = by (mask_l (map is_other (chunk at 16 xs))) refl
  where
    counted : n ≡ prefix_len (λ x. not (is_other x)) (drop at xs) → n ≡ prefix_len is_ascii_digit (drop at xs)
    counted e = e ∙ (λ i. prefix_len (λ x. no_other x i) (drop at xs))

    by : (mask : ℕ) → mask_l (map is_other (chunk at 16 xs)) ≡ mask → n ≡ prefix_len is_ascii_digit (drop at xs)
    by zero e =
        absurd (omega (arith, is, ap (count_trailing_zeros 64) e, no_bit, few))
    by (suc m) e =
        let first = block_some is_other xs at 16 (mask_l (map is_other (chunk at 16 xs))) room (omega arith) refl
        (λ none. absurd (omega (arith, none, e))) in
        counted (omega (arith, is, first))
