-- The number of some digits, read from the front, and cut at a bound.
use Rattle.std.proofs.Common.{◌≡◌, ℕ, ◌+◌, ◌-◌, ◌*◌, ◌<◌, min, true, cond, List, [], ◌∷◌, length, nat_le, sym, ap, ◌∙◌, arith, get_or, drop}
use Rattle.std.specs.Char.{is_ascii_digit, digit_value}
use Rattle.std.specs.Int.{IsInRange}
use Rattle.std.specs.List.{take_while}
use Rattle.std.specs.Str.Parse.{digits_value_after}
use Rattle.std.proofs.lemmas.Bool.{and_parts, leb-true}
use Rattle.std.proofs.lemmas.List.{at_drop_more}
use Rattle.std.proofs.lemmas.List.Sums.{take_while-cons}
use Rattle.std.proofs.lemmas.Str.{digit_value_digit}
use Rattle.mr_items.specs.Runs.{run_at}

-- the number that these digits make after the number n, or the bound where it is larger
abbrev pub capped : ℕ → List ℕ → ℕ
capped n ds = min (digits_value_after 10 n ds) 2147483648

-- what was read so far may be cut at the bound
capped_cut : (n : ℕ) (ds : List ℕ) → capped (min n 2147483648) ds ≡ capped n ds
capped_cut n [] = omega arith
capped_cut n (d ∷ ds) =
    let v = digit_value d in
    let cut : min (min n 2147483648 * 10 + v) 2147483648 ≡ min (n * 10 + v) 2147483648 = omega arith in
    sym (capped_cut (min n 2147483648 * 10 + v) ds) ∙ ap (λ m. capped m ds) cut ∙ capped_cut (n * 10 + v) ds

-- a digit lies from 48 to 57
pub digit_range : (c : ℕ) → is_ascii_digit c ≡ true → IsInRange 48 57 c
digit_range c e = let both = and_parts (nat_le 48 c) (nat_le c 57) e in (leb-true 48 c both.0, leb-true c 57 both.1)

pub digit_is : (c : ℕ) → is_ascii_digit c ≡ true → digit_value c ≡ c - 48
digit_is c e = omega (arith, digit_value_digit c (digit_range c e))

-- one digit more
pub capped-more : (line : List ℕ) (n m at : ℕ) → at < length line → is_ascii_digit (get_or line at 0) ≡ true
    → m ≡ min (n * 10 + (get_or line at 0 - 48)) 2147483648
    → capped m (run_at is_ascii_digit line (at + 1)) ≡ capped n (run_at is_ascii_digit line at)
capped-more line n m at h digit is =
    let rest : run_at is_ascii_digit line at ≡ get_or line at 0 ∷ run_at is_ascii_digit line (at + 1) =
    at_drop_more (take_while is_ascii_digit) line at 0 h ∙ take_while-cons is_ascii_digit (get_or line at 0) (drop (at + 1) line)
    ∙ ap (λ b. cond b (get_or line at 0 ∷ run_at is_ascii_digit line (at + 1)) []) digit in
    ap (λ k. capped k (run_at is_ascii_digit line (at + 1))) is
    ∙ capped_cut (n * 10 + (get_or line at 0 - 48)) (run_at is_ascii_digit line (at + 1))
    ∙ ap (λ d. capped (n * 10 + d) (run_at is_ascii_digit line (at + 1))) (sym (digit_is (get_or line at 0) digit))
    ∙ ap (capped n) (sym rest)
