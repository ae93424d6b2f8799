-- The number of some digits, read from the front, where it is at most this.
use Rattle.std.proofs.Common.{◌≡◌, ℕ, ◌+◌, ◌-◌, ◌*◌, ◌<◌, ◌≤◌, Bool, true, false, ◌&&◌, cond, true≢false, if◌then◌else◌, List, [], ◌∷◌}
use Rattle.std.proofs.Common.{length, nat_le, nat_lt, Option, Some, None, refl, sym, ap, ◌∙◌, arith, get_or, drop}
use Rattle.std.specs.List.{list_all}
use Rattle.std.specs.Char.{is_ascii_digit, digit_value}
use Rattle.std.specs.Str.Parse.{digits_value, digits_value_after}
use Rattle.std.proofs.lemmas.List.{drop_more}
use Rattle.std.proofs.lemmas.Bool.{lt-leb, leb-true, le-ltb, lt-ltb}
use Rattle.mr_items.specs.Number.{is_numeral_up_to}

left_true : (a b : Bool) → (a && b) ≡ true → a ≡ true
left_true true b e = refl
left_true false b e = e

right_true : (a b : Bool) → (a && b) ≡ true → b ≡ true
right_true true b e = e
right_true false b e = absurd (true≢false (sym e))

value : (c : ℕ) → is_ascii_digit c ≡ true → digit_value c ≡ c - 48
value c e =
    let low : 48 ≤ c = leb-true 48 c (left_true (nat_le 48 c) (nat_le c 57) e) in
    let high : c ≤ 57 = leb-true c 57 (right_true (nat_le 48 c) (nat_le c 57) e) in
    λ i. cond (le-ltb c 48 low i) 36
    (cond (lt-ltb c 58 (omega (arith, high)) i) (c - 48)
    (cond (nat_lt c 65) 36 (cond (nat_lt c 91) (c - 55) (cond (nat_lt c 97) 36 (cond (nat_lt c 123) (c - 87) 36)))))

both_false : (s t : Bool) → t ≡ false → (s && t) ≡ false
both_false true t e = e
both_false false t e = refl

after_no_less : (n : ℕ) (ds : List ℕ) → n ≤ digits_value_after 10 n ds
after_no_less n [] = omega arith
after_no_less n (d ∷ ds) = omega (arith, after_no_less (n * 10 + digit_value d) ds)

same_None : (a b : Bool) (v : ℕ) → (if b then Some v else None) ≡ None → None ≡ (if a && b then Some v else None)
same_None true b v e = sym e
same_None false b v e = refl

module _ (most : ℕ) where
  -- the number that these digits make after the number n
  abbrev pub number_after : ℕ → List ℕ → Option ℕ
  number_after n ds = if list_all is_ascii_digit ds && nat_le (digits_value_after 10 n ds) most
      then Some (digits_value_after 10 n ds)
      else None

  -- too large already
  large : (n : ℕ) (ds : List ℕ) → most < n → number_after n ds ≡ None
  large n ds h = ap (λ b. if b then Some (digits_value_after 10 n ds) else None)
      (both_false (list_all is_ascii_digit ds) (nat_le (digits_value_after 10 n ds) most)
      (lt-leb (digits_value_after 10 n ds) most (omega (arith, h, after_no_less n ds))))

  -- a digit
  pub after_digit : (n c m : ℕ) (ds : List ℕ) → is_ascii_digit c ≡ true → m ≡ n * 10 + (c - 48)
      → number_after n (c ∷ ds) ≡ number_after m ds
  after_digit n c m ds e k =
      ap (λ b. if (b && list_all is_ascii_digit ds) && nat_le (digits_value_after 10 n (c ∷ ds)) most
      then Some (digits_value_after 10 n (c ∷ ds))
      else None) e
      ∙ ap (λ v. number_after v ds) (ap (λ d. n * 10 + d) (value c e) ∙ sym k)

  -- what was read so far is too large
  pub exceeds : (ds : List ℕ) (i n m : ℕ) → i < length ds → is_ascii_digit (get_or ds i 0) ≡ true → m ≡ n * 10 + (get_or ds i 0 - 48)
      → most < m → number_after n (drop i ds) ≡ number_after 0 ds
      → None ≡ (if is_numeral_up_to most ds then Some (digits_value 10 ds) else None)
  exceeds ds i n m h digit is above kept =
      same_None (nat_lt 0 (length ds)) (list_all is_ascii_digit ds && nat_le (digits_value 10 ds) most) (digits_value 10 ds)
      (sym kept ∙ ap (number_after n) (drop_more ds i 0 h) ∙ after_digit n (get_or ds i 0) m (drop (i + 1) ds) digit is
      ∙ large m (drop (i + 1) ds) above)
