-- Lists that hold each number as often are permutations of each other.
use Rattle.std.proofs.Common.{◌≡◌, ℕ, zero, suc, ◌+◌, ◌≤◌, ◌==◌, true, false, cond, nat_lt, List, [], ◌∷◌, ◌++◌, refl, sym, ap, subst, ◌∙◌}
use Rattle.std.proofs.Common.{arith, sum_by}
use Rattle.std.specs.List.{range_with_len}
use Rattle.std.specs.List.Sorted.{IsPermutation}
use Rattle.std.proofs.lemmas.Bool.Decides.{nat_tests}
use Rattle.std.proofs.lemmas.List.Sorted.{IsPermutation-refl, IsPermutation-sym, IsPermutation-cons, IsPermutation-middle}
use Rattle.std.proofs.lemmas.List.Sorted.{IsPermutation-trans, sum_by-IsPermutation}
use Rattle.std.proofs.lemmas.List.Sums.{sum_by-cons}
use Rattle.mr_base.specs.Tasks.{times}
use Rattle.mr_base.proofs.Times.{times-append}

record Split (x : ℕ) (ys : List ℕ) : Type 0 where
  us : List ℕ
  vs : List ℕ
  is : ys ≡ us ++ x ∷ vs

split_at : (x : ℕ) (ys : List ℕ) → 1 ≤ times x ys → Split x ys
split_at x [] h = absurd (omega (arith, h))
split_at x (y ∷ ys) h = elim (y == x) as (λ b. (y == x) ≡ b → Split x (y ∷ ys)) [
  | true ↦ λ e. let same : y ≡ x = grind (arith, nat_tests, e) in record { us = []; vs = ys; is = ap (λ z. z ∷ ys) same }
  | false ↦ λ e. let r = split_at x ys
      (let q : 1 ≤ cond false 1 0 + times x ys = subst (λ b. 1 ≤ cond b 1 0 + times x ys) e h in omega (arith, q)) in
      record { us = y ∷ r.us; vs = r.vs; is = ap (λ l. y ∷ l) r.is }
] refl

itself : (x : ℕ) (xs : List ℕ) → 1 ≤ times x (x ∷ xs)
itself x xs = grind (arith, nat_tests)

no_more : (ys : List ℕ) → ((x : ℕ) → 0 ≡ times x ys) → [] ≡ ys
no_more [] h = refl
no_more (y ∷ ys) h = let a = itself y ys in let b = h y in absurd (omega (arith, a, b))

counted : (x : ℕ) (xs : List ℕ) → times x xs ≡ sum_by (λ y. cond (y == x) 1 0) xs
counted x [] = refl
counted x (y ∷ ys) = let e = counted x ys in let c = sum_by-cons (λ z. cond (z == x) 1 0) y ys in omega (arith, e, c)

-- and permutations hold each number as often
pub times-permuted : (x : ℕ) (xs ys : List ℕ) → IsPermutation xs ys → times x ys ≡ times x xs
times-permuted x xs ys p = counted x ys ∙ sum_by-IsPermutation (λ y. cond (y == x) 1 0) xs ys p ∙ sym (counted x xs)

pub permuted : (xs ys : List ℕ) → ((x : ℕ) → times x xs ≡ times x ys) → IsPermutation xs ys
permuted [] ys h = subst (λ l. IsPermutation [] l) (no_more ys h) (IsPermutation-refl [])
permuted (x ∷ xs) ys h =
    let s = split_at x ys (subst (λ n. 1 ≤ n) (h x) (itself x xs)) in
    let rest : (y : ℕ) → times y xs ≡ times y (s.us ++ s.vs) = λ y.
    let a = h y in
    let b = ap (times y) s.is in
    let c = times-append y s.us (x ∷ s.vs) in
    let d = times-append y s.us s.vs in
    omega (arith, a, b, c, d) in
    IsPermutation-trans (x ∷ xs) (x ∷ (s.us ++ s.vs)) ys (IsPermutation-cons x xs (s.us ++ s.vs) (permuted xs (s.us ++ s.vs) rest))
    (subst (λ l. IsPermutation (x ∷ (s.us ++ s.vs)) l) (sym s.is)
    (IsPermutation-sym (s.us ++ x ∷ s.vs) (x ∷ (s.us ++ s.vs)) (IsPermutation-middle s.us x s.vs)))

pub times-range : (x a n : ℕ) → times x (range_with_len a n) ≡ cond (nat_lt x a) 0 (cond (nat_lt x (a + n)) 1 0)
times-range x a zero = grind (arith, nat_tests)
times-range x a (suc n) = let e = times-range x (suc a) n in grind (arith, nat_tests, e)

pub once_permuted : (n : ℕ) (xs : List ℕ) → ((x : ℕ) → times x xs ≡ cond (nat_lt x n) 1 0) → IsPermutation (range_with_len 0 n) xs
once_permuted n xs h = permuted (range_with_len 0 n) xs (λ x. let a = times-range x 0 n in let b = h x in grind (arith, nat_tests, a, b))
