-- Lists that ascend don't fall, and lists of different keys that don't fall ascend.
use Rattle.std.proofs.Common.{◌≡◌, false, List, [], ◌∷◌, map, refl, sym, ap, ◌∙◌, true≢false}
use Rattle.std.specs.List.{AllByRecursion, IsDistinct}
use Rattle.std.specs.List.Sorted.{IsPermutation, IsStrictlySortedBy}
use Rattle.std.specs.declared.cmp.Ordering.{Ordering}
use Rattle.std.specs.declared.cmp.Ordering.TheVariants.{Less, Equal, Greater}
use Rattle.std.specs.Ordering.{eq_by_cmp, is_lt, is_eq, ordering_reverse}
use Rattle.std.specs.Cmp.{IsTotalOrder, eq_by_cmp_equiv}
use Rattle.std.proofs.lemmas.List.Sorted.{IsPermutation-map}
use Rattle.std.proofs.lemmas.Map.Keys.{IsDistinct-head, IsDistinct-tail, IsDistinct-IsPermutation}
use Rattle.mr_merge.specs.Rising.{rank, AreAbove, Rises}

module _ {K : Type 0} {R : K → K → Ordering} (o : IsTotalOrder R) where
  less : (x y : K) → is_lt (R y x) ≡ false → eq_by_cmp R x y ≡ false → R x y ≡ Less
  less x y h differs = elim (R x y) as (λ r. R x y ≡ r → r ≡ Less) [
    | Less ↦ λ e. refl
    | Equal ↦ λ e. absurd (true≢false (sym (ap is_eq e) ∙ differs))
    | Greater ↦ λ e. absurd (true≢false (sym (ap is_lt (o.antisymm y x ∙ ap ordering_reverse e)) ∙ h))
  ] refl

module _ {K A : Type 0} {R : K → K → Ordering} (o : IsTotalOrder R) where
  above : (x : K × A) (es : List (K × A)) → AllByRecursion (λ y. R x.0 y ≡ Less) (map (λ e. e.0) es) → AreAbove (rank R) x es
  above x [] h = tt
  above x (e ∷ es) h = (ap is_lt (o.antisymm e.0 x.0 ∙ ap ordering_reverse h.0), above x es h.1)

  pub rises : (es : List (K × A)) → IsStrictlySortedBy R (map (λ e. e.0) es) → Rises (rank R) es
  unfolding IsStrictlySortedBy
  rises [] h = tt
  rises (e ∷ es) h = (above e es h.0, rises es h.1)

  less_each : (x : K × A) (es : List (K × A)) → AreAbove (rank R) x es → AllByRecursion (λ y. eq_by_cmp R x.0 y ≡ false)
      (map (λ e. e.0) es) → AllByRecursion (λ y. R x.0 y ≡ Less) (map (λ e. e.0) es)
  less_each x [] h d = tt
  less_each x (e ∷ es) h d = (less o x.0 e.0 h.0 d.0, less_each x es h.1 d.1)

  ascends : (es : List (K × A)) → Rises (rank R) es → IsDistinct (eq_by_cmp R) (map (λ e. e.0) es) → IsStrictlySortedBy R
      (map (λ e. e.0) es)
  unfolding IsStrictlySortedBy
  ascends [] h d = tt
  ascends (e ∷ es) h d = (less_each e es h.0 (IsDistinct-head _ _ _ d), ascends es h.1 (IsDistinct-tail _ _ _ d))

  -- the rows of lists whose keys differ
  pub gathered : (whole rows : List (K × A)) → IsPermutation whole rows → Rises (rank R) rows → IsDistinct (eq_by_cmp R)
      (map (λ e. e.0) whole) → IsStrictlySortedBy R (map (λ e. e.0) rows)
  gathered whole rows all r d = ascends rows r (IsDistinct-IsPermutation (eq_by_cmp R) ((eq_by_cmp_equiv o).symm) _ _
      (IsPermutation-map (λ e. e.0) whole rows all) d)
