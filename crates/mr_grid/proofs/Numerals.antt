-- The digits at the front of a field, and the field as a numeral.
use Rattle.std.proofs.Common.{◌≡◌, ℕ, suc, ◌+◌, ◌<◌, ◌≤◌, min, Bool, true, false, not, ◌&&◌, cond, if◌then◌else◌, List, [], ◌∷◌, length}
use Rattle.std.proofs.Common.{nat_le, nat_lt, Some, None, refl, sym, ap, ap₂, ◌∙◌, arith, take, drop}
use Rattle.std.specs.Char.{is_ascii_digit}
use Rattle.std.specs.List.{list_all, take_while, prefix_len}
use Rattle.std.specs.Str.Parse.{digits_value}
use Rattle.std.proofs.lemmas.Bool.{le-leb, lt-leb, lt-ltb, le-ltb, ne_eqb}
use Rattle.std.proofs.lemmas.List.Folds.{length-prefix_len}
use Rattle.mr_defs.specs.Limits.{greatest_element}
use Rattle.mr_items.specs.Lines.{is_field_byte}
use Rattle.mr_grid.specs.Fields.{numeral_of}
use Rattle.mr_grid.proofs.Digits.{digit_range}

-- a digit is a byte of a field
digit_field : (c : ℕ) → is_ascii_digit c ≡ true → is_field_byte c ≡ true
digit_field c e =
    let low = (digit_range c e).0 in
    ap₂ (λ a b. not a && not b) (ne_eqb c 32 (λ k. absurd (omega arith))) (ne_eqb c 9 (λ k. absurd (omega arith)))

take_one : (k x : ℕ) (xs : List ℕ) → take (1 + k) (x ∷ xs) ≡ x ∷ take k xs
take_one k x xs = ap (λ n. take n (x ∷ xs)) (let e : 1 + k ≡ suc k = omega arith in e)

drop_one : (k x : ℕ) (xs : List ℕ) → drop (1 + k) (x ∷ xs) ≡ drop k xs
drop_one k x xs = ap (λ n. drop n (x ∷ xs)) (let e : 1 + k ≡ suc k = omega arith in e)

-- the digits in front, and what follows them
pub field_parts : (u : List ℕ)
    → prefix_len is_field_byte u ≡ prefix_len is_ascii_digit u + prefix_len is_field_byte (drop (prefix_len is_ascii_digit u) u)
field_parts [] = refl
field_parts (x ∷ xs) = by (is_ascii_digit x) refl (field_parts xs)
  where
    by : (t : Bool) → is_ascii_digit x ≡ t
        → prefix_len is_field_byte xs ≡ prefix_len is_ascii_digit xs + prefix_len is_field_byte (drop (prefix_len is_ascii_digit xs) xs)
        → prefix_len is_field_byte (x ∷ xs)
        ≡ cond t (1 + prefix_len is_ascii_digit xs) 0
        + prefix_len is_field_byte (drop (cond t (1 + prefix_len is_ascii_digit xs) 0) (x ∷ xs))
    by true e rest = ap (λ b. cond b (1 + prefix_len is_field_byte xs) 0) (digit_field x e)
        ∙ omega (arith, rest, ap (prefix_len is_field_byte) (drop_one (prefix_len is_ascii_digit xs) x xs))
    by false e rest = omega arith

-- a field that ends with its digits is made of digits alone, and any other is not
pub all_digits : (u : List ℕ) → prefix_len is_field_byte u ≡ prefix_len is_ascii_digit u
    → list_all is_ascii_digit (take_while is_field_byte u) ≡ true
all_digits [] e = refl
all_digits (x ∷ xs) e = by (is_ascii_digit x) (is_field_byte x) refl refl e (all_digits xs)
  where
    by : (t b : Bool) → is_ascii_digit x ≡ t → is_field_byte x ≡ b
        → cond b (1 + prefix_len is_field_byte xs) 0 ≡ cond t (1 + prefix_len is_ascii_digit xs) 0
        → (prefix_len is_field_byte xs ≡ prefix_len is_ascii_digit xs → list_all is_ascii_digit (take_while is_field_byte xs) ≡ true)
        → list_all is_ascii_digit (take (cond b (1 + prefix_len is_field_byte xs) 0) (x ∷ xs)) ≡ true
    by true true d f k rest = ap (list_all is_ascii_digit) (take_one (prefix_len is_field_byte xs) x xs)
        ∙ ap (λ a. a && list_all is_ascii_digit (take_while is_field_byte xs)) d ∙ rest (omega arith)
    by false true d f k rest = absurd (omega arith)
    by t false d f k rest = refl

pub some_other : (u : List ℕ) → prefix_len is_ascii_digit u < prefix_len is_field_byte u
    → list_all is_ascii_digit (take_while is_field_byte u) ≡ false
some_other [] h = absurd (omega arith)
some_other (x ∷ xs) h = by (is_ascii_digit x) (is_field_byte x) refl h (some_other xs)
  where
    by : (t b : Bool) → is_ascii_digit x ≡ t → cond t (1 + prefix_len is_ascii_digit xs) 0 < cond b (1 + prefix_len is_field_byte xs) 0
        → (prefix_len is_ascii_digit xs < prefix_len is_field_byte xs → list_all is_ascii_digit (take_while is_field_byte xs) ≡ false)
        → list_all is_ascii_digit (take (cond b (1 + prefix_len is_field_byte xs) 0) (x ∷ xs)) ≡ false
    by true true d k rest = ap (list_all is_ascii_digit) (take_one (prefix_len is_field_byte xs) x xs)
        ∙ ap (λ a. a && list_all is_ascii_digit (take_while is_field_byte xs)) d ∙ rest (omega arith)
    by false true d k rest = ap (list_all is_ascii_digit) (take_one (prefix_len is_field_byte xs) x xs)
        ∙ ap (λ a. a && list_all is_ascii_digit (take_while is_field_byte xs)) d
    by t false d k rest = absurd (omega arith)

-- a field by the number of its digits and their value cut at the bound
module _ (u : List ℕ) (n value : ℕ) (count : n ≡ prefix_len is_ascii_digit u)
    (is : value ≡ min (digits_value 10 (take_while is_ascii_digit u)) 2147483648) where
  abbrev field : List ℕ
  field = take_while is_field_byte u

  decided : (a b c : Bool) → nat_lt 0 (length field) ≡ a → list_all is_ascii_digit field ≡ b
      → nat_le (digits_value 10 field) greatest_element ≡ c
      → numeral_of field ≡ (if a && (b && c) then Some (digits_value 10 field) else None)
  decided a b c e f g = λ i. if e i && (f i && g i) then Some (digits_value 10 field) else None

  same_field : prefix_len is_field_byte u ≡ n → take_while is_ascii_digit u ≡ field
  same_field e = ap (λ k. take k u) (sym count ∙ sym e)

  pub natural_is : 0 < n → prefix_len is_field_byte u ≡ n → value ≤ greatest_element → Some value ≡ numeral_of field
  natural_is some whole small =
      let size : length field ≡ n = length-prefix_len is_field_byte u ∙ whole in
      let same : digits_value 10 (take_while is_ascii_digit u) ≡ digits_value 10 field = ap (digits_value 10) (same_field whole) in
      let number : value ≡ digits_value 10 field = omega (arith, is, same, small) in
      ap Some number ∙ sym (decided true true true (lt-ltb 0 (length field) (omega arith)) (all_digits u (whole ∙ count))
      (le-leb (digits_value 10 field) greatest_element (omega arith)))

  pub natural_large : prefix_len is_field_byte u ≡ n → greatest_element < value → None ≡ numeral_of field
  natural_large whole large =
      let same : digits_value 10 (take_while is_ascii_digit u) ≡ digits_value 10 field = ap (digits_value 10) (same_field whole) in
      by (nat_lt 0 (length field)) (list_all is_ascii_digit field) refl refl
      (lt-leb (digits_value 10 field) greatest_element (omega (arith, is, same, large)))
    where
      by : (a b : Bool) → nat_lt 0 (length field) ≡ a → list_all is_ascii_digit field ≡ b
          → nat_le (digits_value 10 field) greatest_element ≡ false → None ≡ numeral_of field
      by true true e f g = sym (decided true true false e f g)
      by true false e f g = sym (decided true false false e f g)
      by false b e f g = sym (decided false b false e f g)

  pub natural_stray : n < prefix_len is_field_byte u → None ≡ numeral_of field
  natural_stray more =
      by (nat_lt 0 (length field)) (nat_le (digits_value 10 field) greatest_element) refl refl (some_other u (omega (arith, count, more)))
    where
      by : (a c : Bool) → nat_lt 0 (length field) ≡ a → nat_le (digits_value 10 field) greatest_element ≡ c
          → list_all is_ascii_digit field ≡ false → None ≡ numeral_of field
      by true c e g f = sym (decided true false c e f g)
      by false c e g f = sym (decided false false c e f g)

  pub natural_empty : prefix_len is_field_byte u ≡ 0 → None ≡ numeral_of field
  natural_empty none = by (list_all is_ascii_digit field) (nat_le (digits_value 10 field) greatest_element) refl refl
      (le-ltb 0 (length field) (omega (arith, length-prefix_len is_field_byte u, none)))
    where
      by : (b c : Bool) → list_all is_ascii_digit field ≡ b → nat_le (digits_value 10 field) greatest_element ≡ c
          → nat_lt 0 (length field) ≡ false → None ≡ numeral_of field
      by b c f g e = sym (decided false b c e f g)
