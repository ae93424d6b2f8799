use Rattle.std.proofs.Common.{◌≡◌, false, List, [], ◌∷◌, map, refl, sym, subst}
use Rattle.std.specs.Prelude.{All}
use Rattle.std.specs.List.{IsDistinct}
use Rattle.std.specs.List.Sorted.{IsStrictlySortedBy}
use Rattle.std.specs.declared.cmp.Ordering.{Ordering}
use Rattle.std.specs.Ordering.{eq_by_cmp}
use Rattle.std.proofs.lemmas.List.Elements.{All-nil, All-cons}
use Rattle.mr_defs.specs.Partitions.{concatenated}
use Rattle.mr_tests.proofs.merge.merged.Goals as goal

-- lists of one row, or of none
module _ {K A : Type 0} (R : K → K → Ordering) (x y : K × A) (lists : List (List (K × A)))
    (are : lists ≡ (x ∷ []) ∷ [] ∷ (y ∷ []) ∷ []) where
  each_ascends : All (λ list. IsStrictlySortedBy R (map (λ row. row.0) list)) lists
  unfolding IsStrictlySortedBy
  each_ascends =
      let P : List (K × A) → Type 0 = λ list. IsStrictlySortedBy R (map (λ row. row.0) list) in
      subst (All P) (sym are) (All-cons P (x ∷ []) ([] ∷ (y ∷ []) ∷ []) (tt, tt)
      (All-cons P [] ((y ∷ []) ∷ []) tt (All-cons P (y ∷ []) [] (tt, tt) (All-nil P))))

  all_differ : eq_by_cmp R x.0 y.0 ≡ false → IsDistinct (eq_by_cmp R) (map (λ row. row.0) (concatenated lists))
  unfolding IsDistinct
  all_differ e = subst (λ l. IsDistinct (eq_by_cmp R) (map (λ row. row.0) (concatenated l))) (sym are) ((e, tt), (tt, tt))

pub merge_all-requires-clause-ascend : goal.merge_all-requires-clause-ascend
merge_all-requires-clause-ascend g c κs = each_ascends _ _ _ _ c.in_ok-lists.ensures

pub merge_all-requires-clause-differ : goal.merge_all-requires-clause-differ
merge_all-requires-clause-differ g c κs = all_differ _ _ _ _ c.in_ok-lists.ensures refl
