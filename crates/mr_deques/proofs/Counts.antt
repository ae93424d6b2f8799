-- The tasks in lists of numbers, counted.
use Rattle.std.proofs.Common.{flat_map, ◌≡◌, ℕ, zero, suc, ◌+◌, ◌<◌, ◌≤◌, true, false, cond, nat_lt, List, [], ◌∷◌, ◌++◌, length}
use Rattle.std.proofs.Common.{slice_index_or, slice_set, refl, ap, arith, subst}
use Rattle.std.proofs.lemmas.Bool.Decides.{nat_tests}
use mathlib.Core.Logic.{dite}
use native.Mathlib.Decide.{dec_lt}
use Rattle.mr_base.specs.Tasks.{times, start_of}
use Rattle.mr_base.proofs.Times.{times-append}
use Rattle.mr_base.proofs.Starts.{start_up, start_zero, start_last}
use Rattle.mr_deques.specs.Passes.{below}

is_below : (x e : ℕ) → x < e → nat_lt x e ≡ true
is_below x e h = grind (arith, nat_tests, h)

not_below : (x e : ℕ) → e ≤ x → nat_lt x e ≡ false
not_below x e h = grind (arith, nat_tests, h)

pub below_times : (e y : ℕ) (xs : List ℕ) → times y (below e xs) ≡ cond (nat_lt y e) (times y xs) 0
below_times e y [] = grind (arith, nat_tests)
below_times e y (x ∷ xs) =
    let h = below_times e y xs in
    dite (dec_lt x e)
    (λ lt. rw (is_below x e lt) (grind (arith, nat_tests, h, lt)))
    (λ no. let ge : e ≤ x = omega (arith, no) in rw (not_below x e ge) (grind (arith, nat_tests, h, ge)))

pub below_past : (e : ℕ) (xs : List ℕ) (x : ℕ) → e ≤ x → below e (xs ++ x ∷ []) ≡ below e xs
below_past e [] x ge = rw (not_below x e ge) refl
below_past e (y ∷ ys) x ge = let h = below_past e ys x ge in rw h refl

-- whether y is a task of queue q
abbrev pub in_range : ℕ → ℕ → ℕ → ℕ → ℕ
in_range t n q y = cond (nat_lt y (start_of t n q)) 0 (cond (nat_lt y (start_of t n (q + 1))) 1 0)

module _ {X : Type 0} (f : X → List ℕ) (t n : ℕ) (pos : 0 < n) where
  pub spread : (xs : List X) (k y : ℕ) → ((j : ℕ) (e : X) → j < length xs → times y (f (slice_index_or xs j e)) ≤ in_range t n (k + j) y)
      → times y (flat_map f xs) ≤ cond (nat_lt y (start_of t n k)) 0 (cond (nat_lt y (start_of t n (k + length xs))) 1 0)
  spread [] k y h = omega arith
  spread (x ∷ xs) k y h =
      let a : times y (f x) ≤ in_range t n k y = subst (λ i. times y (f x) ≤ in_range t n i y) (omega arith) (h 0 x (omega arith)) in
      let b = spread xs (k + 1) y
      (λ j e lt. subst (λ i. times y (f (slice_index_or xs j e)) ≤ in_range t n i y) (omega arith) (h (suc j) e (omega (arith, lt)))) in
      let c = times-append y (f x) (flat_map f xs) in
      let u = start_up t n k (k + 1) pos (omega arith) in
      let e : (k + 1) + length xs ≡ k + suc (length xs) = omega arith in
      let b' = subst (λ i. times y (flat_map f xs) ≤ cond (nat_lt y (start_of t n (k + 1))) 0 (cond (nat_lt y (start_of t n i)) 1 0)) e b in
      let w = start_up t n (k + 1) (k + suc (length xs)) pos (omega arith) in
      grind (arith, nat_tests, a, b', c, u, w)

  pub spread_all : (xs : List X) (k y : ℕ)
      → ((j : ℕ) (e : X) → j < length xs → times y (f (slice_index_or xs j e)) ≡ in_range t n (k + j) y)
      → times y (flat_map f xs) ≡ cond (nat_lt y (start_of t n k)) 0 (cond (nat_lt y (start_of t n (k + length xs))) 1 0)
  spread_all [] k y h = let e : k + 0 ≡ k = omega arith in rw e (grind (arith, nat_tests))
  spread_all (x ∷ xs) k y h =
      let a : times y (f x) ≡ in_range t n k y = subst (λ i. times y (f x) ≡ in_range t n i y) (omega arith) (h 0 x (omega arith)) in
      let b = spread_all xs (k + 1) y
      (λ j e lt. subst (λ i. times y (f (slice_index_or xs j e)) ≡ in_range t n i y) (omega arith) (h (suc j) e (omega (arith, lt)))) in
      let c = times-append y (f x) (flat_map f xs) in
      let u = start_up t n k (k + 1) pos (omega arith) in
      let e : (k + 1) + length xs ≡ k + suc (length xs) = omega arith in
      let b' = subst (λ i. times y (flat_map f xs) ≡ cond (nat_lt y (start_of t n (k + 1))) 0 (cond (nat_lt y (start_of t n i)) 1 0)) e b in
      let w = start_up t n (k + 1) (k + suc (length xs)) pos (omega arith) in
      grind (arith, nat_tests, a, b', c, u, w)

  pub each_once : (xs : List X) → length xs ≡ n → ((j y : ℕ) (e : X) → j < n → times y (f (slice_index_or xs j e)) ≡ in_range t n j y)
      → (y : ℕ) → times y (flat_map f xs) ≡ cond (nat_lt y t) 1 0
  each_once xs len h y =
      let a = spread_all xs 0 y
      (λ j e lt. subst (λ i. times y (f (slice_index_or xs j e)) ≡ in_range t n i y) (omega arith) (h j y e (omega (arith, lt, len)))) in
      let z = start_zero t n in
      let e : 0 + length xs ≡ n = omega (arith, len) in
      let a' = subst (λ i. times y (flat_map f xs) ≡ cond (nat_lt y (start_of t n 0)) 0 (cond (nat_lt y (start_of t n i)) 1 0)) e a in
      let l = start_last t n pos in
      grind (arith, nat_tests, a', z, l)

module _ {X : Type 0} (f : X → List ℕ) where
  pub none_of : (xs : List X) (y : ℕ) → ((j : ℕ) (e : X) → j < length xs → times y (f (slice_index_or xs j e)) ≡ 0)
      → times y (flat_map f xs) ≡ 0
  none_of [] y h = refl
  none_of (x ∷ xs) y h =
      let a = h 0 x (omega arith) in
      let b = none_of xs y (λ j e lt. h (suc j) e (omega (arith, lt))) in
      let c = times-append y (f x) (flat_map f xs) in
      omega (arith, a, b, c)

  -- one element is changed
  pub times-set : (xs : List X) (q : ℕ) (e v : X) (y : ℕ) → q < length xs
      → times y (flat_map f (slice_set xs q v)) + times y (f (slice_index_or xs q e)) ≡ times y (flat_map f xs) + times y (f v)
  times-set [] q e v y h = absurd (omega (arith, h))
  times-set (x ∷ xs) zero e v y h = let a = times-append y (f v) (flat_map f xs) in let b = times-append y (f x) (flat_map f xs) in
      omega (arith, a, b)
  times-set (x ∷ xs) (suc q) e v y h =
      let a = times-append y (f x) (flat_map f (slice_set xs q v)) in
      let b = times-append y (f x) (flat_map f xs) in
      let c = times-set xs q e v y (omega (arith, h)) in
      omega (arith, a, b, c)

  pub flat_map-set : (xs : List X) (q : ℕ) (e v : X) → f v ≡ f (slice_index_or xs q e) → flat_map f (slice_set xs q v) ≡ flat_map f xs
  flat_map-set [] q e v h = refl
  flat_map-set (x ∷ xs) zero e v h = ap (λ l. l ++ flat_map f xs) h
  flat_map-set (x ∷ xs) (suc q) e v h = ap (λ l. f x ++ l) (flat_map-set xs q e v h)

module _ {X : Type 0} where
  pub at_past : (xs : List X) (d : X) (i : ℕ) → length xs ≤ i → slice_index_or xs i d ≡ d
  at_past [] d i h = refl
  at_past (y ∷ ys) d zero h = absurd (omega (arith, h))
  at_past (y ∷ ys) d (suc i) h = at_past ys d i (omega (arith, h))

  pub at_in : (xs : List X) (i : ℕ) (d e : X) → i < length xs → slice_index_or xs i d ≡ slice_index_or xs i e
  at_in [] i d e h = absurd (omega (arith, h))
  at_in (y ∷ ys) zero d e h = refl
  at_in (y ∷ ys) (suc i) d e h = at_in ys i d e (omega (arith, h))

  pub some_of : (xs : List X) → 0 < length xs → X
  some_of [] h = absurd (omega (arith, h))
  some_of (x ∷ xs) h = x
