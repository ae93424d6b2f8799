-- How many keys inside stand in a pair, where one pair more comes.
use Rattle.std.proofs.Common.{◌≡◌, ℕ, suc, ◌+◌, Bool, true, false, ◌||◌, cond, if◌then◌else◌, T, List, [], ◌∷◌, ◌++◌, length, filter}
use Rattle.std.proofs.Common.{filter_map, fold, Option, Some, None, is_some, refl, sym, ap, ◌∙◌, arith}
use Rattle.std.specs.List.{list_any, cons_option}
use Rattle.std.specs.BTreeSet.{insert_key}
use Rattle.std.specs.declared.cmp.Ordering.{Ordering}
use Rattle.std.specs.declared.cmp.Ordering.TheVariants.{Less, Equal, Greater}
use Rattle.std.specs.Ordering.{eq_by_cmp, is_eq, match_ordering}
use Rattle.std.specs.Cmp.{IsTotalOrder}
use Rattle.std.specs.FinMap.{IsAntisymmetric, is_sorted}
use Rattle.std.specs.FinMap.Entries.{below_all}
use Rattle.std.proofs.lemmas.List.Elements.{filter_map-append}
use Rattle.mr_defs.specs.Emission.{Emission, Pair, TooLarge, Malformed}
use Rattle.mr_defs.specs.Commutative.{joined}
use Rattle.mr_defs.specs.Keyed.{at, ascending, pair_key}
use Rattle.mr_defs.specs.Rows.{cells_of}
use Rattle.mr_defs.specs.Stands.{cell_of}
use Rattle.mr_defs.proofs.Ascending.{ascending-push, ascending_sorted, marked}
use Rattle.mr_container.proofs.Orders.{is_Less, both_first, both_second}

or_twice : (a b : Bool) → (a || b) ≡ (a || (a || b))
or_twice true b = refl
or_twice false b = refl

or_left_comm : (a b c : Bool) → (a || (b || c)) ≡ (b || (a || c))
or_left_comm true true c = refl
or_left_comm true false c = refl
or_left_comm false b c = refl

or_none : (a : Bool) → (a || false) ≡ a
or_none true = refl
or_none false = refl

some_joined : {C : Type 0} (op : C → C → C) (a : C) (b : Option C) → true ≡ is_some (joined op (Some a) b)
some_joined op a None = refl
some_joined op a (Some b) = refl

module _ {K : Type 0} (R : K → K → Ordering) (one : IsAntisymmetric R) (q : K) where
  any-insert_key : (ks : List K) (k : K) → list_any (eq_by_cmp R q) (insert_key R ks k) ≡ (eq_by_cmp R q k || list_any (eq_by_cmp R q) ks)
  any-insert_key [] k = refl
  any-insert_key (x ∷ xs) k = elim (R k x) as (λ r. R k x ≡ r
      → list_any (eq_by_cmp R q) (match_ordering r (k ∷ x ∷ xs) (x ∷ xs) (x ∷ insert_key R xs k))
      ≡ (eq_by_cmp R q k || list_any (eq_by_cmp R q) (x ∷ xs))) [
        | Less ↦ λ e. refl
        | Equal ↦ λ e. or_twice (eq_by_cmp R q x) (list_any (eq_by_cmp R q) xs)
            ∙ ap (λ y. eq_by_cmp R q y || list_any (eq_by_cmp R q) (x ∷ xs)) (sym (one k x e))
        | Greater ↦ λ e. ap (λ t. eq_by_cmp R q x || t) (any-insert_key xs k)
            ∙ or_left_comm (eq_by_cmp R q x) (eq_by_cmp R q k) (list_any (eq_by_cmp R q) xs)
      ] refl

  any-fold : (ks acc : List K)
      → list_any (eq_by_cmp R q) (fold (insert_key R) acc ks) ≡ (list_any (eq_by_cmp R q) ks || list_any (eq_by_cmp R q) acc)
  any-fold [] acc = refl
  any-fold (k ∷ ks) acc =
      any-fold ks (insert_key R acc k)
      ∙ ap (λ t. list_any (eq_by_cmp R q) ks || t) (any-insert_key acc k)
      ∙ or_left_comm (list_any (eq_by_cmp R q) ks) (eq_by_cmp R q k) (list_any (eq_by_cmp R q) acc)
      ∙ regrouped (eq_by_cmp R q k) (list_any (eq_by_cmp R q) ks) (list_any (eq_by_cmp R q) acc)
    where
      regrouped : (a b c : Bool) → (a || (b || c)) ≡ ((a || b) || c)
      regrouped true b c = refl
      regrouped false b c = refl

  -- the different keys of a list are those of the list
  pub any-ascending : (ks : List K) → list_any (eq_by_cmp R q) (ascending R ks) ≡ list_any (eq_by_cmp R q) ks
  any-ascending ks = any-fold ks [] ∙ or_none (list_any (eq_by_cmp R q) ks)

module _ {K : Type 0} (R : K → K → Ordering) (inside : K → Bool) where
  -- a key that is not inside
  filter-insert_key : (k : K) → inside k ≡ false → (ks : List K) → filter inside (insert_key R ks k) ≡ filter inside ks
  filter-insert_key k h [] = ap (λ t. cond t (k ∷ []) []) h
  filter-insert_key k h (x ∷ xs) =
      elim (R k x) as (λ r. filter inside (match_ordering r (k ∷ x ∷ xs) (x ∷ xs) (x ∷ insert_key R xs k)) ≡ filter inside (x ∷ xs)) [
        | Less ↦ ap (λ t. cond t (k ∷ filter inside (x ∷ xs)) (filter inside (x ∷ xs))) h
        | Equal ↦ refl
        | Greater ↦ ap (λ l. cond (inside x) (x ∷ l) l) (filter-insert_key k h xs)
      ]

  module _ (o : IsTotalOrder R) (k : K) where
    -- a key below all is none of them
    none_below : (x : K) (xs : List K) → R k x ≡ Less → T (below_all R x (marked xs)) → list_any (eq_by_cmp R k) xs ≡ false
    none_below x [] e h = refl
    none_below x (y ∷ ys) e h =
        ap (λ r. is_eq r || list_any (eq_by_cmp R k) ys) (o.trans k x y e (is_Less (R x y) (both_first _ _ h)))
        ∙ none_below x ys e (both_second _ _ h)

    -- a key that is inside
    length-filter-insert_key : inside k ≡ true → (ks : List K) → T (is_sorted R (marked ks))
        → length (filter inside (insert_key R ks k))
        ≡ cond (list_any (eq_by_cmp R k) ks) (length (filter inside ks)) (length (filter inside ks) + 1)
    length-filter-insert_key h [] s = ap (λ t. length (cond t (k ∷ []) [])) h
    length-filter-insert_key h (x ∷ xs) s = elim (R k x) as (λ r. R k x ≡ r
        → length (filter inside (match_ordering r (k ∷ x ∷ xs) (x ∷ xs) (x ∷ insert_key R xs k)))
        ≡ cond (is_eq r || list_any (eq_by_cmp R k) xs) (length (filter inside (x ∷ xs))) (length (filter inside (x ∷ xs)) + 1)) [
          | Less ↦ λ e.
              ap (λ t. length (cond t (k ∷ filter inside (x ∷ xs)) (filter inside (x ∷ xs)))) h
              ∙ one_more (length (filter inside (x ∷ xs)))
              ∙ ap (λ t. cond t (length (filter inside (x ∷ xs))) (length (filter inside (x ∷ xs)) + 1))
              (sym (none_below x xs e (both_first _ _ s)))
          | Equal ↦ λ e. refl
          | Greater ↦ λ e. elim (inside x) as (λ t. length
              (cond t (x ∷ filter inside (insert_key R xs k)) (filter inside (insert_key R xs k)))
              ≡ cond (list_any (eq_by_cmp R k) xs) (length (cond t (x ∷ filter inside xs) (filter inside xs)))
              (length (cond t (x ∷ filter inside xs) (filter inside xs)) + 1)) [
                | true ↦ ap suc (length-filter-insert_key h xs (both_second _ _ s))
                    ∙ within (list_any (eq_by_cmp R k) xs) (length (filter inside xs))
                | false ↦ length-filter-insert_key h xs (both_second _ _ s)
              ]
        ] refl
      where
        one_more : (n : ℕ) → suc n ≡ n + 1
        one_more n = omega arith

        within : (t : Bool) (n : ℕ) → suc (cond t n (n + 1)) ≡ cond t (suc n) (suc n + 1)
        within true n = refl
        within false n = omega arith

module _ {K V C : Type 0} (R : K → K → Ordering) (unit : V → C) (merged : C → C → C) where
  -- a key has a cell exactly where it stands in a pair
  pub is_some-cell_of : (es : List (Emission K V)) (k : K)
      → is_some (cell_of unit merged (at R es k)) ≡ list_any (eq_by_cmp R k) (filter_map pair_key es)
  is_some-cell_of [] k = refl
  is_some-cell_of (Pair q v
      ∷ es) k = elim (eq_by_cmp R k q) as (λ t. is_some (cell_of unit merged (cons_option (if t then Some v else None) (at R es k)))
      ≡ (t || list_any (eq_by_cmp R k) (filter_map pair_key es))) [
        | true ↦ sym (some_joined merged (unit v) (cell_of unit merged (at R es k)))
        | false ↦ is_some-cell_of es k
      ]
  is_some-cell_of (TooLarge q ∷ es) k = is_some-cell_of es k
  is_some-cell_of (Malformed o ∷ es) k = is_some-cell_of es k

module _ {K V : Type 0} (R : K → K → Ordering) (o : IsTotalOrder R) (one : IsAntisymmetric R) (inside : K → Bool)
    (es : List (Emission K V)) (k : K) (v : V) where
  keys_pushed : ascending R (filter_map pair_key (es ++ Pair k v ∷ [])) ≡ insert_key R (ascending R (filter_map pair_key es)) k
  keys_pushed = ap (ascending R) (filter_map-append pair_key es (Pair k v ∷ [])) ∙ ascending-push R (filter_map pair_key es) k

  -- a pair of a key inside, and of one that is not
  pub cells_of-push : inside k ≡ true
      → cells_of R inside (es ++ Pair k v ∷ [])
      ≡ cond (list_any (eq_by_cmp R k) (filter_map pair_key es)) (cells_of R inside es) (cells_of R inside es + 1)
  cells_of-push h =
      ap (λ ks. length (filter inside ks)) keys_pushed
      ∙ length-filter-insert_key R inside o k h (ascending R (filter_map pair_key es)) (ascending_sorted R o (filter_map pair_key es))
      ∙ ap (λ t. cond t (cells_of R inside es) (cells_of R inside es + 1)) (any-ascending R one k (filter_map pair_key es))

  pub cells_of-push_outside : inside k ≡ false → cells_of R inside (es ++ Pair k v ∷ []) ≡ cells_of R inside es
  cells_of-push_outside h =
      ap (λ ks. length (filter inside ks)) keys_pushed ∙ ap length (filter-insert_key R inside k h (ascending R (filter_map pair_key es)))
