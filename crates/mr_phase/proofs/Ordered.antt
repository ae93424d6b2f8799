-- Numbers that don't fall and stand each once below n are the numbers below n in their order.
use Rattle.std.proofs.Common.{◌≡◌, ℕ, zero, suc, ◌+◌, ◌<◌, ◌≤◌, ◌==◌, true, false, cond, nat_lt, List, [], ◌∷◌, length, get_or, refl, ap₂}
use Rattle.std.proofs.Common.{subst, ◌∙◌, arith}
use Rattle.std.specs.List.{AllByRecursion, range_with_len}
use Rattle.std.proofs.lemmas.Bool.Decides.{nat_tests}
use Rattle.std.specs.List.Sorted.{IsPermutation}
use Rattle.mr_base.specs.Tasks.{times}
use Rattle.mr_base.proofs.Bridge.{times-permuted, times-range}

abbrev Rises : List ℕ → Type 0
Rises [] = Unit {0}
Rises (x ∷ xs) = AllByRecursion (λ y. x ≤ y) xs × Rises xs

itself : (x : ℕ) (xs : List ℕ) → 1 ≤ times x (x ∷ xs)
itself x xs = grind (arith, nat_tests)

-- a number that stands in the list is no less than what none of the list is less than
bound : (a y : ℕ) (ys : List ℕ) → 1 ≤ times a ys → AllByRecursion (λ z. y ≤ z) ys → y ≤ a
bound a y [] h all = absurd (omega (arith, h))
bound a y (z ∷ zs) h all = elim (z == a) as (λ b. (z == a) ≡ b → y ≤ a) [
  | true ↦ λ e. let same : z ≡ a = grind (arith, nat_tests, e) in omega (arith, same, all.0)
  | false ↦ λ e. bound a y zs
      (let q : 1 ≤ cond false 1 0 + times a zs = subst (λ b. 1 ≤ cond b 1 0 + times a zs) e h in omega (arith, q)) all.1
] refl

in_order : (n a : ℕ) (xs : List ℕ) → ((x : ℕ) → times x xs ≡ cond (nat_lt x a) 0 (cond (nat_lt x (a + n)) 1 0)) → Rises xs
    → xs ≡ range_with_len a n
in_order zero a [] h r = refl
in_order zero a (y ∷ ys) h r = let i = itself y ys in let e = h y in absurd (grind (arith, nat_tests, i, e))
in_order (suc n) a [] h r = let e = h a in absurd (grind (arith, nat_tests, e))
in_order (suc n) a (y ∷ ys) h r =
    let i = itself y ys in
    let ey = h y in
    let ea = h a in
    let low : a ≤ y = grind (arith, nat_tests, i, ey) in
    let one : times a (y ∷ ys) ≡ 1 = grind (arith, nat_tests, ea) in
    let high : y ≤ a = bound a y (y ∷ ys) (omega (arith, one)) (omega arith, r.0) in
    let is : y ≡ a = omega (arith, low, high) in
    ap₂ (λ b l. b ∷ l) is (in_order n (a + 1) ys (λ x. let e = h x in grind (arith, nat_tests, e, is)) r.1)

-- numbers sorted, of which each below n stands once
rises_from : (x : ℕ) (xs : List ℕ) → ((j : ℕ) (d : ℕ) → j < length xs → x ≤ get_or xs j d) → AllByRecursion (λ y. x ≤ y) xs
rises_from x [] h = tt
rises_from x (y ∷ ys) h = (h 0 y (omega arith), rises_from x ys (λ j d lt. h (suc j) d (omega (arith, lt))))

rises_each : (xs : List ℕ) → ((i j : ℕ) (d : ℕ) → i < j → j < length xs → get_or xs i d ≤ get_or xs j d) → Rises xs
rises_each [] h = tt
rises_each (x ∷ xs) h = (
  rises_from x xs (λ j d lt. h 0 (suc j) d (omega arith) (omega (arith, lt))),
  rises_each xs (λ i j d p lt. h (suc i) (suc j) d (omega (arith, p)) (omega (arith, lt))),
)

pub all_in_order : (n : ℕ) (xs : List ℕ) → IsPermutation (range_with_len 0 n) xs
    → ((i j : ℕ) (d : ℕ) → i < j → j < length xs → get_or xs i d ≤ get_or xs j d) → xs ≡ range_with_len 0 n
all_in_order n xs p up = in_order n 0 xs (λ x. times-permuted x (range_with_len 0 n) xs p ∙ times-range x 0 n) (rises_each xs up)
