-- Entries that ascend: where a search ends, and what an edit there does.
use Rattle.std.proofs.Common.{◌≡◌, ℕ, zero, suc, ◌+◌, ◌<◌, ◌≤◌, cond, List, [], ◌∷◌, length, get_or, set, Some, None, Result, Ok, Err, IfOk}
use Rattle.std.proofs.Common.{IfErr, refl, sym, ap, subst, ◌∙◌, arith, T}
use Rattle.std.specs.List.{HoldsAt, insert}
use Rattle.std.specs.List.Sorted.{IsNonDecreasingBy, IsPartitionPoint, IsBinarySearchResult}
use Rattle.std.specs.declared.cmp.Ordering.{Ordering}
use Rattle.std.specs.declared.cmp.Ordering.TheVariants.{Less, Equal, Greater}
use Rattle.std.specs.Ordering.{is_eq, is_lt, ordering_index, ordering_reverse}
use Rattle.std.specs.Cmp.{IsTotalOrder, tied_back}
use Rattle.std.specs.FinMap.{find, put, is_sorted}
use Rattle.std.specs.FinMap.Entries.{by_order, below_all}
use Rattle.std.proofs.lemmas.List.Sorted.{searchable_from_sorted}
use Rattle.mr_container.proofs.Orders.{is_Less, both_first, both_second}

-- what a search gives, where the comparisons rise
pub searched : {X : Type 0} (ord : X → Ordering) (xs : List X) → IsNonDecreasingBy (λ y. ordering_index (ord y)) xs → (r : Result ℕ ℕ)
    → IsBinarySearchResult ord xs r
    → IfOk r (HoldsAt (λ y. ord y ≡ Equal) xs) × IfErr r (IsPartitionPoint (λ y. ord y ≡ Less) (λ y. ord y ≡ Greater) xs)
searched ord xs rise (Ok at) h = (h, tt)
searched ord xs rise (Err at) h = (tt, h rise)

module _ {K C : Type 0} {R : K → K → Ordering} (o : IsTotalOrder R) where
  below_place : (x : K) (es : List (K × C)) (j : ℕ) (d : K × C) → T (below_all R x es) → j < length es → R x (get_or es j d).0 ≡ Less
  below_place x [] j d h k = absurd (omega (arith, k))
  below_place x (e ∷ es) zero d h k = is_Less _ (both_first _ _ h)
  below_place x (e ∷ es) (suc j) d h k = below_place x es j d (both_second _ _ h) (omega arith)

  pub sorted_places : (es : List (K × C)) (i j : ℕ) (d : K × C) → T (is_sorted R es) → i < j → j < length es
      → R (get_or es i d).0 (get_or es j d).0 ≡ Less
  sorted_places [] i j d h p k = absurd (omega (arith, k))
  sorted_places (e ∷ es) zero zero d h p k = absurd (omega (arith, p))
  sorted_places (e ∷ es) zero (suc j) d h p k = below_place e.0 es j d (both_first _ _ h) (omega arith)
  sorted_places (e ∷ es) (suc i) zero d h p k = absurd (omega (arith, p))
  sorted_places (e ∷ es) (suc i) (suc j) d h p k = sorted_places es i j d (both_second _ _ h) (omega arith) (omega arith)

  pub comparisons_rise : (es : List (K × C)) (k : K) → T (is_sorted R es) → IsNonDecreasingBy (λ e. ordering_index (R e.0 k)) es
  comparisons_rise es k h = searchable_from_sorted o (λ e. e.0) es k
      (λ i d p q. ap is_lt (o.antisymm _ _ ∙ ap ordering_reverse (sorted_places es i (i + 1) d h (omega arith) q)))

  -- a key that ties with the entry at a place goes there
  pub put_here : (k : K) (v : C) (es : List (K × C)) (i : ℕ) (e : K × C) → T (is_sorted R es) → i < length es → e ≡ get_or es i e
      → R e.0 k ≡ Equal → put R k v es ≡ set es i (e.0, v)
  put_here k v [] i e h p is t = absurd (omega (arith, p))
  put_here k v (x ∷ es) zero e h p is t =
      let here : R k x.0 ≡ Equal = subst (λ y. R k y ≡ Equal) (ap (λ y. y.0) is) (tied_back o e.0 k t) in
      ap (λ r. by_order r ((k, v) ∷ x ∷ es) ((x.0, v) ∷ es) (x ∷ put R k v es)) here ∙ ap (λ y. (y, v) ∷ es) (sym (ap (λ y. y.0) is))
  put_here k v (x ∷ es) (suc i) e h p is t =
      let before : R x.0 e.0 ≡ Less = ap (λ y. R x.0 y.0) is ∙ below_place x.0 es i e (both_first _ _ h) (omega arith) in
      let later : R k x.0 ≡ Greater = o.congr k e.0 x.0 (tied_back o e.0 k t) ∙ o.antisymm e.0 x.0 ∙ ap ordering_reverse before in
      ap (λ r. by_order r ((k, v) ∷ x ∷ es) ((x.0, v) ∷ es) (x ∷ put R k v es)) later
      ∙ ap (λ l. x ∷ l) (put_here k v es i e (both_second _ _ h) (omega arith) is t)

  -- the gap of a key, less what is before it
  gap_tail : (k : K) (x : K × C) (es : List (K × C)) (i : ℕ)
      → IsPartitionPoint (λ e. R e.0 k ≡ Less) (λ e. R e.0 k ≡ Greater) (x ∷ es) (suc i)
      → IsPartitionPoint (λ e. R e.0 k ≡ Less) (λ e. R e.0 k ≡ Greater) es i
  gap_tail k x es i g = (λ j d p q. g.0 (suc j) d (omega arith) (omega arith), λ j d p q. g.1 (suc j) d (omega arith) (omega arith))

  pub put_gap : (k : K) (v : C) (es : List (K × C)) (i : ℕ) → i ≤ length es
      → IsPartitionPoint (λ e. R e.0 k ≡ Less) (λ e. R e.0 k ≡ Greater) es i → put R k v es ≡ insert es i (k, v)
  put_gap k v [] zero p g = refl
  put_gap k v [] (suc i) p g = refl
  put_gap k v (x ∷ es) zero p g = ap (λ r. by_order r ((k, v) ∷ x ∷ es) ((x.0, v) ∷ es) (x ∷ put R k v es))
      (o.antisymm k x.0 ∙ ap ordering_reverse (g.1 0 x (omega arith) (omega arith)))
  put_gap k v (x ∷ es) (suc i) p g = ap (λ r. by_order r ((k, v) ∷ x ∷ es) ((x.0, v) ∷ es) (x ∷ put R k v es))
      (o.antisymm k x.0 ∙ ap ordering_reverse (g.0 0 x (omega arith) (omega arith)))
      ∙ ap (λ l. x ∷ l) (put_gap k v es i (omega arith) (gap_tail k x es i g))

  pub find_gap : (k : K) (es : List (K × C)) (i : ℕ) → i ≤ length es → IsPartitionPoint (λ e. R e.0 k ≡ Less) (λ e. R e.0 k ≡ Greater) es i
      → find R k es ≡ None
  find_gap k [] i p g = refl
  find_gap k (x ∷ es) zero p g = ap (λ r. cond (is_eq r) (Some x.1) (find R k es))
      (o.antisymm k x.0 ∙ ap ordering_reverse (g.1 0 x (omega arith) (omega arith)))
      ∙ find_gap k es zero (omega arith) (λ j d p q. absurd (omega (arith, q)), λ j d p q. g.1 (suc j) d (omega arith) (omega arith))
  find_gap k (x ∷ es) (suc i) p g = ap (λ r. cond (is_eq r) (Some x.1) (find R k es))
      (o.antisymm k x.0 ∙ ap ordering_reverse (g.0 0 x (omega arith) (omega arith))) ∙ find_gap k es i (omega arith) (gap_tail k x es i g)
