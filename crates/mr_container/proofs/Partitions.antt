-- The entries of one partition.
use Rattle.std.proofs.Common.{◌≡◌, ℕ, zero, suc, ◌==◌, Bool, List, [], ◌∷◌, drop, map, T}
use Rattle.std.specs.List.{filter, AllByRecursion, IsDistinct}
use Rattle.std.specs.Ordering.{eq_by_cmp}
use Rattle.std.specs.declared.cmp.Ordering.{Ordering}
use Rattle.std.specs.declared.cmp.Ordering.TheVariants.{Less}
use Rattle.std.specs.FinMap.{IsAntisymmetric, find, is_sorted}
use Rattle.std.specs.FinMap.Entries.{below_all, is_sorted-where_key}
use Rattle.std.specs.List.Sorted.{IsStrictlySortedBy}
use Rattle.std.proofs.lemmas.Map.Keys.{IsDistinct-from_sorted}
use Rattle.mr_container.specs.Partition.{IsPartition}
use Rattle.mr_container.proofs.Orders.{is_Less, both_first, both_second}
use Rattle.mr_container.proofs.Entries.{part_of_distinct}

module _ {K C : Type 0} (R : K → K → Ordering) where
  all_Less : (x : K) (es : List (K × C)) → T (below_all R x es) → AllByRecursion (λ y. R x y ≡ Less) (map (λ e. e.0) es)
  all_Less x [] h = tt
  all_Less x (e ∷ es) h = (is_Less _ (both_first _ _ h), all_Less x es (both_second _ _ h))

  strictly : (es : List (K × C)) → T (is_sorted R es) → IsStrictlySortedBy R (map (λ e. e.0) es)
  unfolding IsStrictlySortedBy
  strictly [] h = tt
  strictly (e ∷ es) h = (all_Less e.0 es (both_first _ _ h), strictly es (both_second _ _ h))

  sorted_drop : (n : ℕ) (es : List (K × C)) → T (is_sorted R es) → T (is_sorted R (drop n es))
  sorted_drop zero es h = h
  sorted_drop (suc n) [] h = h
  sorted_drop (suc n) (e ∷ es) h = sorted_drop n es (both_second _ _ h)

  -- the keys of a partition ascend from each place on
  pub part_ascends : (p : K → Bool) (n : ℕ) (es : List (K × C)) → T (is_sorted R es)
      → IsStrictlySortedBy R (map (λ e. e.0) (filter (λ e. p e.0) (drop n es)))
  part_ascends p n es h = strictly _ (is_sorted-where_key R p (drop n es) (sorted_drop n es h))

  pub sorted_distinct : (es : List (K × C)) → T (is_sorted R es) → IsDistinct (eq_by_cmp R) (map (λ e. e.0) es)
  sorted_distinct es h = IsDistinct-from_sorted R _ (strictly es h)

  pub part_of_sorted : IsAntisymmetric R → (part_of : K → ℕ) (part : ℕ) (es : List (K × C)) → T (is_sorted R es)
      → IsPartition R (λ k. find R k es) part_of part (filter (λ e. part_of e.0 == part) es)
  part_of_sorted one part_of part es h = part_of_distinct R one part_of part es (sorted_distinct es h)
