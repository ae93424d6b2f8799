-- Entries that ascend and have the cell of each key have the keys of the emissions.
use Rattle.std.proofs.Common.{◌≡◌, Bool, true, false, ◌&&◌, ◌||◌, cond, if◌then◌else◌, T, List, [], ◌∷◌, map, filter, filter_map, Option}
use Rattle.std.proofs.Common.{Some, None, is_some, refl, sym, ap, subst, ◌∙◌}
use Rattle.std.specs.List.{list_any}
use Rattle.std.specs.declared.cmp.Ordering.{Ordering}
use Rattle.std.specs.Ordering.{eq_by_cmp}
use Rattle.std.specs.Cmp.{IsTotalOrder}
use Rattle.std.specs.FinMap.{IsAntisymmetric, find, is_sorted}
use Rattle.std.specs.FinMap.Entries.{below_all, where_key, is_sorted-where_key, is_some-find, same_entries}
use Rattle.mr_defs.specs.Emission.{Emission}
use Rattle.mr_defs.specs.Keyed.{at, keys, keys_inside, pair_key}
use Rattle.mr_defs.specs.Stands.{cell_of}
use Rattle.mr_defs.proofs.Ascending.{marked, ascending_sorted}
use Rattle.mr_container.proofs.Counting.{any-ascending, is_some-cell_of}
use Rattle.mr_container.proofs.Orders.{is_Equal, both_first, both_second}
use Rattle.mr_phase.proofs.Folding.{both}

unmarked : {K : Type 0} (ks : List K) → map (λ e. e.0) (marked ks) ≡ ks
unmarked [] = refl
unmarked (k ∷ ks) = ap (λ l. k ∷ l) (unmarked ks)

module _ {K : Type 0} (R : K → K → Ordering) where
  find-marked : (q : K) (ks : List K) → find R q (marked ks) ≡ (if list_any (eq_by_cmp R q) ks then Some tt else None)
  find-marked q [] = refl
  find-marked q (k ∷ ks) = elim (eq_by_cmp R q k) as (λ t. cond t (Some (tt {0})) (find R q (marked ks))
      ≡ (if t || list_any (eq_by_cmp R q) ks then Some tt else None)) [ true ↦ refl | false ↦ find-marked q ks ]

  where_key-marked : (p : K → Bool) (ks : List K) → where_key R p (marked ks) ≡ marked (filter p ks)
  where_key-marked p [] = refl
  where_key-marked p (k ∷ ks) = elim (p k) as (λ t. cond t ((k, tt) ∷ where_key R p (marked ks)) (where_key R p (marked ks))
      ≡ marked
      (cond t (k ∷ filter p ks) (filter p ks))) [ true ↦ ap (λ l. (k, tt) ∷ l) (where_key-marked p ks) | false ↦ where_key-marked p ks ]

  -- keys that ascend are the same where the same keys stand in them
  pub same_keys : (o : IsTotalOrder R) (one : IsAntisymmetric R) (ks ls : List K) → T (is_sorted R (marked ks))
      → T (is_sorted R (marked ls)) → ((q : K) → list_any (eq_by_cmp R q) ks ≡ list_any (eq_by_cmp R q) ls) → ks ≡ ls
  same_keys o one ks ls g h same =
      sym (unmarked ks)
      ∙ ap (map (λ e. e.0)) (same_entries R o one (marked ks) (marked ls) g h
      (λ q. find-marked q ks ∙ ap (λ t. if t then Some tt else None) (same q) ∙ sym (find-marked q ls)))
      ∙ unmarked ls

module _ {K : Type 0} (R : K → K → Ordering) (one : IsAntisymmetric R) (p : K → Bool) (q : K) where
  -- the tests of the first key: whether q ties with it, and whether it passes
  filtered : (k : K) (ks : List K) (ties passes : Bool) → eq_by_cmp R q k ≡ ties → p k ≡ passes → (ties ≡ true → passes ≡ p q)
      → list_any (eq_by_cmp R q) (filter p ks) ≡ (p q && list_any (eq_by_cmp R q) ks)
      → list_any (eq_by_cmp R q) (cond passes (k ∷ filter p ks) (filter p ks)) ≡ (p q && (ties || list_any (eq_by_cmp R q) ks))
  filtered k ks true true tie pass same rest = ap (λ b. b || list_any (eq_by_cmp R q) (filter p ks)) tie ∙ ap (λ b. b && true) (same refl)
  filtered k ks true false tie pass same rest =
      rest ∙ ap (λ b. b && list_any (eq_by_cmp R q) ks) (sym (same refl)) ∙ ap (λ b. b && true) (same refl)
  filtered k ks false true tie pass same rest = ap (λ b. b || list_any (eq_by_cmp R q) (filter p ks)) tie ∙ rest
  filtered k ks false false tie pass same rest = rest

  any-filter : (ks : List K) → list_any (eq_by_cmp R q) (filter p ks) ≡ (p q && list_any (eq_by_cmp R q) ks)
  any-filter [] = elim (p q) as (λ t. false ≡ (t && false)) [ true ↦ refl | false ↦ refl ]
  any-filter (k ∷ ks) = filtered k ks (eq_by_cmp R q k) (p k) refl refl (λ e. ap p (sym (one q k (is_Equal (R q k) e)))) (any-filter ks)

module _ {K C : Type 0} (R : K → K → Ordering) where
  below_marked : (x : K) (es : List (K × C)) → T (below_all R x es) → T (below_all R x (marked (map (λ e. e.0) es)))
  below_marked x [] h = tt
  below_marked x (e ∷ es) h = both _ _ (both_first _ _ h) (below_marked x es (both_second _ _ h))

  sorted_marked : (es : List (K × C)) → T (is_sorted R es) → T (is_sorted R (marked (map (λ e. e.0) es)))
  sorted_marked [] h = tt
  sorted_marked (e ∷ es) h = both _ _ (below_marked e.0 es (both_first _ _ h)) (sorted_marked es (both_second _ _ h))

-- the keys inside ascend
module _ {K V : Type 0} {R : K → K → Ordering} (o : IsTotalOrder R) (inside : K → Bool) where
  pub keys_inside_sorted : (es : List (Emission K V)) → T (is_sorted R (marked (keys_inside R inside es)))
  keys_inside_sorted es = subst (λ l. T (is_sorted R l)) (where_key-marked R inside (keys R es))
      (is_sorted-where_key R inside (marked (keys R es)) (ascending_sorted R o (filter_map pair_key es)))

is_some-if : {C : Type 0} (b : Bool) (x : Option C) → is_some (if b then x else None) ≡ (b && is_some x)
is_some-if true x = refl
is_some-if false x = refl

module _ {K V C : Type 0} {R : K → K → Ordering} (o : IsTotalOrder R) (one : IsAntisymmetric R) (inside : K → Bool) (unit : V → C)
    (merged : C → C → C) (entries : List (K × C)) (sorted : T (is_sorted R entries)) (es : List (Emission K V))
    (found : (k : K) → find R k entries ≡ (if inside k then cell_of unit merged (at R es k) else None)) where
  pub keys_are : map (λ e. e.0) entries ≡ keys_inside R inside es
  keys_are = same_keys R o one (map (λ e. e.0) entries) (keys_inside R inside es) (sorted_marked R entries sorted)
      (keys_inside_sorted o inside es)
      (λ q. sym (is_some-find R q entries)
      ∙ ap is_some (found q)
      ∙ is_some-if (inside q) (cell_of unit merged (at R es q))
      ∙ ap (λ t. inside q && t) (is_some-cell_of R unit merged es q ∙ sym (any-ascending R one q (filter_map pair_key es)))
      ∙ sym (any-filter R one inside q (keys R es)))
