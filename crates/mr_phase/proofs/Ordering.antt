-- Entries in the order of their fronts.
use Rattle.std.proofs.Common.{◌≡◌, ℕ, zero, suc, ◌+◌, ◌/◌, ◌%◌, ◌<◌, ◌≤◌, Bool, false, nat_lt, if◌then◌else◌, List, [], ◌∷◌, ◌++◌, length}
use Rattle.std.proofs.Common.{map, get_or, sym, ap, subst, ◌∙◌, arith, IsPermutation}
use Rattle.std.specs.Prelude.{All, slice_get}
use Rattle.std.specs.List.Sorted.{IsSortedBy}
use Rattle.std.proofs.lemmas.Bool.Decides.{nat_tests}
use Rattle.std.specs.Cmp.{IsTotalOrder}
use Rattle.std.specs.declared.cmp.Ordering.{Ordering}
use Rattle.std.specs.declared.cmp.Ordering.TheVariants.{Less}
use Rattle.std.specs.Ordering.{is_lt, ordering_reverse}
use mathlib.Core.Logic.{dite}
use native.Mathlib.Decide.{dec_lt}
use Rattle.std.proofs.Math.Nat.{div-mul-le_self}
use Rattle.std.proofs.lemmas.Nat.{le-div}
use Rattle.std.proofs.lemmas.List.Elements.{All-cons, All-nil, All-head, All-tail, All-append}
use Rattle.std.proofs.lemmas.List.Sorted.{All-permutation}
use Rattle.mr_defs.proofs.Shuffled.{IsPermutation-filter_map}
use Rattle.mr_phase.proofs.Packing.{tells_all, picked_all}
use Rattle.mr_phase.specs.Packed.{words_from, front_of, most_of, picked, Tells, Fronts}

pub div_rises : (k m n : ℕ) → 0 < k → m ≤ n → m / k ≤ n / k
div_rises k m n pos h = let p = div-mul-le_self m k in le-div (m / k) n k pos (omega (arith, p, h))

front_rises : (unit count m n : ℕ) → 0 < unit → m ≤ n → front_of unit count m ≤ front_of unit count n
front_rises unit count m n pos h = capped (most_of count) (m / unit) (n / unit) (div_rises unit m n pos h)
  where
    capped : (most a b : ℕ) → a ≤ b → (if nat_lt most a then most else a) ≤ (if nat_lt most b then most else b)
    capped most a b h = grind (arith, nat_tests)

module _ {X : Type 0} (lt : X → X → Bool) where
  -- none is lesser than one before it
  abbrev pub Rises : List X → Type 0
  Rises [] = Unit {0}
  Rises (x ∷ xs) = All (λ y. lt y x ≡ false) xs × Rises xs

  pub rises_both : (xs ys : List X) → Rises xs → Rises ys → All (λ x. All (λ y. lt y x ≡ false) ys) xs → Rises (xs ++ ys)
  rises_both [] ys r s above = s
  rises_both (x ∷ xs) ys r s above = (
    All-append (λ y. lt y x ≡ false) xs ys r.0 (All-head (λ z. All (λ y. lt y z ≡ false) ys) x xs above),
    rises_both xs ys r.1 s (All-tail (λ z. All (λ y. lt y z ≡ false) ys) x xs above),
  )

  pub adjacent : (xs : List X) → Rises xs → IsSortedBy lt xs
  adjacent [] r k d low h = absurd (omega (arith, h))
  adjacent (x ∷ []) r k d low h = absurd (omega (arith, h))
  adjacent (x ∷ (y ∷ xs)) r zero d low h = All-head (λ z. lt z x ≡ false) y xs r.0
  adjacent (x ∷ (y ∷ xs)) r (suc k) d low h =
      let e : suc (k + 1) ≡ suc k + 1 = omega arith in
      subst (λ n. lt (get_or (x ∷ (y ∷ xs)) n d) (get_or (y ∷ xs) k d) ≡ false) e
      (adjacent (y ∷ xs) r.1 k d (omega arith) (omega (arith, h)))

  all_each : (P : X → Type 0) (xs : List X) → ((j : ℕ) (d : X) → j < length xs → P (get_or xs j d)) → All P xs
  all_each P [] h = All-nil P
  all_each P (x ∷ xs) h = All-cons P x xs (h 0 x (omega arith)) (all_each P xs (λ j d k. h (suc j) d (omega (arith, k))))

  pub rises_far : (xs : List X) → ((i j : ℕ) (d : X) → i < j → j < length xs → lt (get_or xs j d) (get_or xs i d) ≡ false) → Rises xs
  rises_far [] h = tt
  rises_far (x ∷ xs) h = (
    all_each (λ y. lt y x ≡ false) xs (λ j d k. h 0 (suc j) d (omega arith) (omega (arith, k))),
    rises_far xs (λ i j d p k. h (suc i) (suc j) d (omega (arith, p)) (omega (arith, k))),
  )

-- fronts of leads order keys
module _ {K : Type 0} {R : K → K → Ordering} (o : IsTotalOrder R) (lead_of : K → ℕ)
    (by_lead : (a b : K) → lead_of a < lead_of b → R a b ≡ Less) (unit count : ℕ) (some : 0 < unit) where
  pub by_front : (a b : K) → front_of unit count (lead_of a) < front_of unit count (lead_of b) → is_lt (R b a) ≡ false
  by_front a b h = dite (dec_lt (lead_of a) (lead_of b))
      (λ lt. ap is_lt (o.antisymm b a ∙ ap ordering_reverse (by_lead a b lt)))
      (λ no. let m = front_rises unit count (lead_of b) (lead_of a) some (omega (arith, no)) in absurd (omega (arith, m, h)))

-- the numbers of entries in any order
module _ {X K : Type 0} {R : K → K → Ordering} (o : IsTotalOrder R) (lead_of : K → ℕ)
    (by_lead : (a b : K) → lead_of a < lead_of b → R a b ≡ Less) (key : X → K) (unit : ℕ) (some : 0 < unit) (all : List X)
    (words sorted : List ℕ)
    (are : words ≡ words_from unit (length all) 0 (map (λ e. lead_of (key e)) all)) (moved : IsPermutation words sorted) where
  pub fronts_of : Fronts (λ a b. is_lt (R (key a) (key b))) all sorted
  fronts_of = record {
    front = λ e. front_of unit (length all) (lead_of (key e));
    orders = λ a b h. by_front o lead_of by_lead unit (length all) some (key a) (key b) h;
    tells = let P : ℕ → Type 0 = Tells (λ e. front_of unit (length all) (lead_of (key e))) all in
        All-permutation P words sorted moved (subst (All P) (sym are) (tells_all unit (λ e. lead_of (key e)) all));
  }

  pub all_picked : IsPermutation all (picked all sorted)
  all_picked =
      subst (λ l. IsPermutation l (picked all sorted)) (ap (picked all) are ∙ picked_all unit (λ e. lead_of (key e)) all)
      (IsPermutation-filter_map (λ w. slice_get all (w % length all)) words sorted moved)
