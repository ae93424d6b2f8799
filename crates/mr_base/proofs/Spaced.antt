-- The digits of a number of seven or eight digits, two by two.
use Rattle.std.proofs.Common.{◌≡◌, ℕ, ◌+◌, ◌/◌, ◌%◌, ◌<◌, ◌≤◌, List, [], ◌∷◌, ◌++◌, append_assoc, ap, ◌∙◌, arith}
use Rattle.std.specs.Fmt.{decimal}
use Rattle.std.proofs.lemmas.Fmt.{decimal_digit}
use Rattle.itoa.proofs.Decimal.{decimal_two, decimal_pair, decimal_four}

-- those behind the first one or two
abbrev pub six_digits : ℕ → List ℕ
six_digits n =
    (48 + n / 10000 % 100 / 10) ∷ (48 + n / 10000 % 100 % 10) ∷ (48 + n % 10000 / 100 / 10) ∷ (48 + n % 10000 / 100 % 10)
    ∷ (48 + n % 100 / 10) ∷ (48 + n % 100 % 10) ∷ []

digits_after : (n : ℕ) → 1000000 ≤ n → n < 100000000 → decimal n ≡ decimal (n / 1000000) ++ six_digits n
digits_after n low high =
    let a : n / 10000 / 100 ≡ n / 1000000 = omega arith in
    let b : n % 10000 % 100 ≡ n % 100 = omega arith in
    rw (decimal_four n (omega arith) (omega arith), decimal_pair (n / 10000) (omega arith) (omega arith), append_assoc, a, b)

pub seven_digits : (n : ℕ) → 1000000 ≤ n → n < 100000000 → n / 1000000 < 10 → decimal n ≡ (48 + n / 1000000 % 10) ∷ six_digits n
seven_digits n low high one =
    let small : n / 1000000 % 10 ≡ n / 1000000 = omega arith in
    rw small (digits_after n low high ∙ ap (λ l. l ++ six_digits n) (decimal_digit (n / 1000000) one))

pub eight_digits : (n : ℕ) → 1000000 ≤ n → n < 100000000 → 10 ≤ n / 1000000
    → decimal n ≡ (48 + n / 1000000 / 10) ∷ (48 + n / 1000000 % 10) ∷ six_digits n
eight_digits n low high two = digits_after n low high ∙ ap (λ l. l ++ six_digits n) (decimal_two (n / 1000000) two (omega arith))
