-- The number of some digits, each of which counts by its weight.
use Rattle.std.proofs.Common.{◌≡◌, ℕ, zero, suc, ◌+◌, ◌-◌, ◌*◌, ◌^◌, ◌<◌, ◌≤◌, min, true, subst, List, [], ◌∷◌, length, take, get_or}
use Rattle.std.proofs.Common.{replicate, inl, inr, refl, sym, ap, ap₂, ◌∙◌, arith}
use Rattle.std.specs.Char.{is_ascii_digit}
use Rattle.std.specs.List.{prefix_len}
use Rattle.std.specs.Str.Parse.{AllDigits, digits_value}
use Rattle.std.proofs.Math.Nat.{add-mul, mul_assoc, mul-le-mul_right, one-le-pow, pow-le-pow_right, pow-succ'}
use Rattle.std.proofs.lemmas.Bool.{cases_lt}
use Rattle.std.proofs.lemmas.Int.Digits.{digits_more, digits_value-lt, digits_value_more}
use Rattle.std.proofs.lemmas.List.{get_or-drop, get_or-replicate, get_or_past, length-take-le}
use Rattle.std.proofs.lemmas.List.Sums.{prefix_len-le-length, prefix_len_passes}
use Rattle.std.proofs.lemmas.Nat.{pow-add}
use Rattle.mr_grid.proofs.Digits.{digit_is, digit_range}

abbrev pub weights : List ℕ
weights = 10000000 ∷ 1000000 ∷ 100000 ∷ 10000 ∷ 1000 ∷ 100 ∷ 10 ∷ 1 ∷ 0 ∷ 0 ∷ 0 ∷ 0 ∷ 0 ∷ 0 ∷ 0 ∷ 0 ∷ []

weight_of_digit : (k : ℕ) → k < 8 → get_or weights k 0 ≡ 10 ^ (7 - k)
weight_of_digit zero h = refl
weight_of_digit (suc zero) h = refl
weight_of_digit (suc (suc zero)) h = refl
weight_of_digit (suc (suc (suc zero))) h = refl
weight_of_digit (suc (suc (suc (suc zero)))) h = refl
weight_of_digit (suc (suc (suc (suc (suc zero))))) h = refl
weight_of_digit (suc (suc (suc (suc (suc (suc zero)))))) h = refl
weight_of_digit (suc (suc (suc (suc (suc (suc (suc zero))))))) h = refl
weight_of_digit (suc (suc (suc (suc (suc (suc (suc (suc k)))))))) h = absurd (omega (arith, h))

no_weight : (j : ℕ) → get_or weights (8 + j) 0 ≡ 0
no_weight j = sym (get_or-drop 8 weights j 0) ∙ elim (cases_lt j 8) [
  | inl h ↦ get_or-replicate 8 j 0 0 h
  | inr h ↦ get_or_past (replicate 8 0) j 0 h
]

-- what those of n digits that stand among the first i bytes count for
abbrev pub so_far : List ℕ → ℕ → ℕ → ℕ
so_far ds n i = digits_value 10 (take (min i n) ds) * 10 ^ (n - i)

module _ (ds : List ℕ) (n : ℕ) (few : n ≤ 8) (count : n ≡ prefix_len is_ascii_digit ds) where
  digit : (i : ℕ) → i < n → is_ascii_digit (get_or ds i 0) ≡ true
  digit i h = prefix_len_passes is_ascii_digit ds i 0 (omega (arith, h, count))

  all_digits : (m : ℕ) → m ≤ n → AllDigits 10 (take m ds)
  all_digits zero h = tt
  all_digits (suc m) h =
      let d = digit m (omega (arith, h)) in
      let next : suc m ≡ m + 1 = omega arith in
      subst (λ k. AllDigits 10 (take k ds)) (sym next)
      (digits_more 10 ds m (omega (arith, h, count, prefix_len-le-length is_ascii_digit ds)) (all_digits m (omega (arith, h)))
      (omega (arith, digit_is (get_or ds m 0) d, (digit_range (get_or ds m 0) d).1)))

  pub small : (i : ℕ) → so_far ds n i < 100000000
  small i =
      let m = min i n in
      let value = digits_value 10 (take m ds) in
      let size : length (take m ds) ≡ m = length-take-le m ds (omega (arith, count, prefix_len-le-length is_ascii_digit ds)) in
      let below : value < 10 ^ m = subst (λ k. value < 10 ^ k) size (digits_value-lt 10 (take m ds) (all_digits m (omega arith))) in
      let scaled : (value + 1) * 10 ^ (n - i) ≤ 10 ^ m * 10 ^ (n - i) = mul-le-mul_right (10 ^ (n - i)) (omega (arith, below)) in
      let whole : m + (n - i) ≤ 8 = omega (arith, few) in
      let most : 10 ^ (m + (n - i)) ≤ 10 ^ 8 = pow-le-pow_right (omega arith) whole in
      let some : 1 ≤ 10 ^ (n - i) = one-le-pow (n - i) 10 (omega arith) in
      omega (arith, scaled, add-mul value 1 (10 ^ (n - i)), pow-add 10 m (n - i), most, some)

  pub begun : 0 ≡ so_far ds n 0
  begun = let none : min 0 n ≡ 0 = omega arith in omega (arith, ap (λ k. digits_value 10 (take k ds) * 10 ^ (n - 0)) none)

  pub ended : so_far ds n 8 ≡ digits_value 10 (take n ds)
  ended =
      let all : min 8 n ≡ n = omega (arith, few) in
      let none : n - 8 ≡ 0 = omega (arith, few) in
      ap₂ (λ k e. digits_value 10 (take k ds) * 10 ^ e) all none ∙ omega arith

  -- one byte more
  pub weighed : (i w : ℕ) → i < 8 → w ≡ get_or weights (8 - n + i) 0 → so_far ds n (i + 1) ≡ so_far ds n i + (get_or ds i 0 - 48) * w
  weighed i w h is = elim (cases_lt i n) [
    | inl l ↦
        let e = n - (i + 1) in
        let value = digits_value 10 (take i ds) in
        let place : 8 - n + i < 8 = omega (arith, few, l) in
        let left : 7 - (8 - n + i) ≡ e = omega (arith, few, l) in
        let power : n - i ≡ suc e = omega (arith, l) in
        let now : min i n ≡ i = omega (arith, l) in
        let next : min (i + 1) n ≡ i + 1 = omega (arith, l) in
        let weight : w ≡ 10 ^ e = is ∙ weight_of_digit (8 - n + i) place ∙ ap (λ k. 10 ^ k) left in
        let more = digits_value_more 10 ds i (omega (arith, l, count, prefix_len-le-length is_ascii_digit ds))
        ∙ ap (λ d. value * 10 + d) (digit_is (get_or ds i 0) (digit i l)) in
        ap₂ (λ k v. v * 10 ^ e) next (ap (λ k. digits_value 10 (take k ds)) next ∙ more)
        ∙ add-mul (value * 10) (get_or ds i 0 - 48) (10 ^ e)
        ∙ ap₂ (λ a b. a + b)
        (mul_assoc value 10 (10 ^ e) ∙ ap (λ p. value * p) (sym (ap (λ k. 10 ^ k) power ∙ pow-succ' 10 e))
        ∙ ap (λ k. digits_value 10 (take k ds) * 10 ^ (n - i)) (sym now))
        (ap (λ p. (get_or ds i 0 - 48) * p) (sym weight))
    | inr past ↦
        let none : w ≡ 0 = is ∙ ap (λ k. get_or weights k 0) (let split : 8 - n + i ≡ 8 + (i - n) = omega (arith, few, past) in split)
        ∙ no_weight (i - n) in
        let now : min i n ≡ n = omega (arith, past) in
        let next : min (i + 1) n ≡ n = omega (arith, past) in
        let over : n - i ≡ 0 = omega (arith, past) in
        let later : n - (i + 1) ≡ 0 = omega (arith, past) in
        ap₂ (λ k e. digits_value 10 (take k ds) * 10 ^ e) (next ∙ sym now) (later ∙ sym over)
        ∙ omega (arith, ap (λ p. (get_or ds i 0 - 48) * p) none)
  ]
