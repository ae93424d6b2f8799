-- Sorted values are in order, and without repetition they are the different ones.
use Rattle.std.specs.Prelude.{◌≡◌, ℕ, ◌+◌, suc, false, cond, if◌then◌else◌, ℤ, List, [], ◌∷◌, fold, get_or}
use Rattle.std.specs.declared.cmp.Ordering.{Ordering}
use Rattle.std.specs.declared.cmp.Ordering.TheVariants.{Less, Equal, Greater}
use Rattle.std.specs.Ordering.{is_lt, is_gt, is_eq, eq_by_cmp, ordering_reverse, match_ordering, int_cmp, int_eq}
use Rattle.std.specs.Cmp.{IsTotalOrder, upto, alike_right, int_cmp_total}
use Rattle.std.specs.FinMap.{IsAntisymmetric, int_cmp-IsAntisymmetric}
use Rattle.std.specs.BTreeSet.{insert_key}
use Rattle.std.specs.List.{AllByRecursion, dedup, dedup_from}
use Rattle.std.specs.List.Sorted.{IsPermutation, IsSorted}
use Rattle.std.proofs.Common.{refl, sym, ap, subst, ◌∙◌, arith}
use mathlib.Core.Bool.{true≢false}
use Rattle.mr_defs.specs.Folded.{in_order, put_in_order}
use Rattle.mr_defs.specs.Keyed.{ascending}
use Rattle.mr_defs.proofs.FoldLaws.{in_order-IsPermutation}
use Rattle.mr_combine.specs.Ordered.{in_order_next}

module _ {A : Type 0} (R : A → A → Ordering) (o : IsTotalOrder R) (one : IsAntisymmetric R) where
  -- each is at most the next
  abbrev rises : A → List A → Type 0
  rises k [] = Unit {0}
  rises k (x ∷ xs) = (is_gt (R k x) ≡ false) × rises x xs

  turned : (r : Ordering) → is_gt (ordering_reverse r) ≡ is_lt r
  turned Less = refl
  turned Equal = refl
  turned Greater = refl

  sorted_rises : (k : A) (xs : List A) → IsSorted R (k ∷ xs) → rises k xs
  sorted_rises k [] s = tt
  sorted_rises k (x ∷ xs) s = (
    ap is_gt (o.antisymm k x) ∙ turned (R x k) ∙ s 0 k (omega arith) (omega arith),
    sorted_rises x xs
        (λ i d l h. subst (λ j. is_lt (R (get_or (k ∷ x ∷ xs) j d) (get_or (x ∷ xs) i d)) ≡ false) (one_on i)
        (s (suc i) d (omega arith) (omega (arith, h)))),
  )
    where
      one_on : (i : ℕ) → suc i + 1 ≡ suc (i + 1)
      one_on i = omega arith

  in_order_stays : (k : A) (xs : List A) → rises k xs → fold (put_in_order R) [] (k ∷ xs) ≡ k ∷ xs
  in_order_stays k [] h = refl
  in_order_stays k (x ∷ xs) h =
      in_order_next R o one k (x ∷ xs)
      ∙ ap (λ l. put_in_order R l k) (in_order_stays x xs h.1)
      ∙ ap (λ b. if b then x ∷ put_in_order R xs k else k ∷ x ∷ xs) h.0

  -- all of the list are above k
  abbrev Above : A → List A → Type 0
  Above k zs = AllByRecursion (λ z. R z k ≡ Greater) zs

  still_less : (k x y : A) → R k x ≡ Less → (r : Ordering) → R x y ≡ r → is_gt r ≡ false → R k y ≡ Less
  still_less k x y l Less e h = o.trans k x y l e
  still_less k x y l Equal e h = sym (alike_right o x y k e) ∙ l
  still_less k x y l Greater e h = absurd (true≢false h)

  above : (k x : A) (xs : List A) → R k x ≡ Less → rises x xs → Above k (x ∷ xs)
  above k x [] l h = (o.antisymm x k ∙ ap ordering_reverse l, tt)
  above k x (y ∷ ys) l h = (o.antisymm x k ∙ ap ordering_reverse l, above k y ys (still_less k x y l (R x y) refl h.0) h.1)

  insert_above : (k : A) (zs acc : List A) → Above k zs → fold (insert_key R) (k ∷ acc) zs ≡ k ∷ fold (insert_key R) acc zs
  insert_above k [] acc h = refl
  insert_above k (z ∷ zs) acc h =
      ap (λ r. fold (insert_key R) (match_ordering r (z ∷ k ∷ acc) (k ∷ acc) (k ∷ insert_key R acc z)) zs) h.0
      ∙ insert_above k zs (insert_key R acc z) h.1

  skip : (k x : A) (xs : List A) → is_gt (R k x) ≡ false → rises x xs → rises k xs
  skip k x [] g h = tt
  skip k x (y ∷ ys) g h = (upto o k x y g h.0, h.1)

  -- the different ones of values that rise
  deduped : (k : A) (xs : List A) → rises k xs → ascending R (k ∷ xs) ≡ dedup_from (eq_by_cmp R) k xs
  deduped k [] h = refl
  deduped k (x ∷ xs) h = by (R x k) refl (deduped k xs (skip k x xs h.0 h.1)) (deduped x xs h.1)
    where
      by : (r : Ordering) → R x k ≡ r → ascending R (k ∷ xs) ≡ dedup_from (eq_by_cmp R) k xs
          → ascending R (x ∷ xs) ≡ dedup_from (eq_by_cmp R) x xs
          → fold (insert_key R) (match_ordering r (x ∷ k ∷ []) (k ∷ []) (k ∷ x ∷ [])) xs
          ≡ cond (is_eq r) (dedup_from (eq_by_cmp R) k xs) (k ∷ dedup_from (eq_by_cmp R) x xs)
      by Less e same other = absurd (true≢false (sym (ap is_gt (o.antisymm k x ∙ ap ordering_reverse e)) ∙ h.0))
      by Equal e same other = same
      by Greater e same other =
          insert_above k xs (x ∷ []) (above k x xs (o.antisymm k x ∙ ap ordering_reverse e) h.1).1 ∙ ap (λ l. k ∷ l) other

pub sorted_in_order : (xs : List ℤ) → IsSorted int_cmp xs → in_order xs ≡ xs
sorted_in_order [] s = refl
sorted_in_order (x ∷ xs) s =
    in_order_stays int_cmp int_cmp_total int_cmp-IsAntisymmetric x xs (sorted_rises int_cmp int_cmp_total int_cmp-IsAntisymmetric x xs s)

-- what a sort leaves
pub sorted_values : (xs ys : List ℤ) → IsPermutation xs ys → IsSorted int_cmp ys → ys ≡ in_order xs
sorted_values xs ys p s = sym (sorted_in_order ys s) ∙ in_order-IsPermutation xs ys p

-- what a sort leaves, without repetition
pub sorted_deduped : (ys : List ℤ) → IsSorted int_cmp ys → dedup int_eq ys ≡ ascending int_cmp ys
sorted_deduped [] s = refl
sorted_deduped (y ∷ ys) s =
    sym (deduped int_cmp int_cmp_total int_cmp-IsAntisymmetric y ys (sorted_rises int_cmp int_cmp_total int_cmp-IsAntisymmetric y ys s))
