-- A length in 32 bits, against the length.
use Rattle.std.proofs.Common.{◌≡◌, ◌∙◌, ◌≤◌, ◌<◌, ℕ, min, ap, sym, arith}
use Rattle.std.specs.Ordering.{nat_cmp}
use Rattle.std.proofs.lemmas.Bool.Decides.{nat_tests}

pub short : (k m : ℕ) → k ≡ min m 4294967295 → k ≤ 16 → m ≤ 16
short k m p h = grind (arith, nat_tests)

pub long : (k m : ℕ) → k ≡ min m 4294967295 → 16 < k → 16 ≤ m
long k m p h = grind (arith, nat_tests)

module _ (k l m n : ℕ) (p : k ≡ min m 4294967295) (q : l ≡ min n 4294967295) where
  pub both_same : m ≡ n → k ≡ l
  both_same e = p ∙ ap (λ z. min z 4294967295) e ∙ sym q

  pub short_same : k ≡ l → k ≤ 16 → m ≡ n
  short_same e h = grind (arith, nat_tests)

  pub short_order : min k l ≤ 16 → nat_cmp k l ≡ nat_cmp m n
  short_order h = grind (arith, nat_tests)
