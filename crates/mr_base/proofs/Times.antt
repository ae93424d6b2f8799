-- Counting in lists of tasks.
use Rattle.std.proofs.Common.{◌≡◌, ℕ, zero, suc, ◌+◌, ◌<◌, ◌≤◌, ◌==◌, cond, nat_lt, List, [], ◌∷◌, ◌++◌, length, refl, arith}
use Rattle.std.proofs.lemmas.Bool.Decides.{nat_tests}
use Rattle.mr_base.specs.Tasks.{times, IsApartBelow}

pub times-append : (x : ℕ) (xs ys : List ℕ) → times x (xs ++ ys) ≡ times x xs + times x ys
times-append x [] ys = omega arith
times-append x (y ∷ xs) ys = let e = times-append x xs ys in omega (arith, e)

pub times-snoc : (x : ℕ) (xs : List ℕ) (y : ℕ) → times x (xs ++ y ∷ []) ≡ times x xs + cond (y == x) 1 0
times-snoc x xs y = let e = times-append x xs (y ∷ []) in omega (arith, e)

-- how many elements are below n, counted by number
sum_below : ℕ → List ℕ → ℕ
sum_below zero xs = 0
sum_below (suc n) xs = times n xs + sum_below n xs

sum_below-nil : (n : ℕ) → sum_below n [] ≡ 0
unfolding sum_below
sum_below-nil zero = refl
sum_below-nil (suc n) = let e = sum_below-nil n in omega (arith, e)

sum_below-cons : (n y : ℕ) (ys : List ℕ) → sum_below n (y ∷ ys) ≡ cond (nat_lt y n) 1 0 + sum_below n ys
unfolding sum_below
sum_below-cons zero y ys = grind (arith, nat_tests)
sum_below-cons (suc n) y ys = let e = sum_below-cons n y ys in grind (arith, nat_tests, e)

sum_below-le : (n : ℕ) (xs : List ℕ) → ((x : ℕ) → times x xs ≤ 1) → sum_below n xs ≤ n
unfolding sum_below
sum_below-le zero xs h = omega arith
sum_below-le (suc n) xs h = let e = sum_below-le n xs h in let f = h n in omega (arith, e, f)

times-self : (y : ℕ) (ys : List ℕ) → 1 ≤ times y (y ∷ ys)
times-self y ys = grind (arith, nat_tests)

apart-below : (n y : ℕ) (ys : List ℕ) → IsApartBelow n (y ∷ ys) → y < n
apart-below n y ys h = let a = h y in let b = times-self y ys in grind (arith, nat_tests, a, b)

apart-tail : (n y : ℕ) (ys : List ℕ) → IsApartBelow n (y ∷ ys) → IsApartBelow n ys
apart-tail n y ys h x = let a = h x in omega (arith, a)

length_is : (n : ℕ) (xs : List ℕ) → IsApartBelow n xs → length xs ≤ sum_below n xs
length_is n [] h = omega arith
length_is n (y ∷ ys) h =
    let e = length_is n ys (apart-tail n y ys h) in
    let b = apart-below n y ys h in
    let s = sum_below-cons n y ys in
    grind (arith, nat_tests, e, b, s)

-- no more numbers than there are
pub apart_length : (n : ℕ) (xs : List ℕ) → IsApartBelow n xs → length xs ≤ n
apart_length n xs h =
    let a = length_is n xs h in
    let one : (x : ℕ) → times x xs ≤ 1 = λ x. let t = h x in grind (arith, nat_tests, t) in
    let b = sum_below-le n xs one in
    omega (arith, a, b)
