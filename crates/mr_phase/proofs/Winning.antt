-- What all passes at the common array won and were refused tells the rows and the faults of what was emitted.
use Rattle.std.proofs.Common.{◌≡◌, ℕ, ℤ, zero, suc, ◌+◌, ◌<◌, ◌≤◌, ◌==◌, nat_lt, Bool, true, not, cond, if◌then◌else◌, T, IsTrue, All}
use Rattle.std.proofs.Common.{Contains, List, [], ◌∷◌, ◌++◌, length, length-append, map, filter, filter_map, flat_map, slice_index_or}
use Rattle.std.proofs.Common.{Option, Some, None, is_some, option_map, refl, sym, ap, subst, ◌∙◌, arith, IsPermutation}
use Rattle.std.specs.Prelude.{count_by}
use Rattle.std.specs.List.{AllByRecursion, cons_option}
use Rattle.std.specs.List.Sorted.{IsStrictlySortedBy}
use Rattle.std.specs.Ordering.{eq_by_cmp, is_eq, nat_cmp}
use Rattle.std.specs.declared.cmp.Ordering.{Ordering}
use Rattle.std.specs.Cmp.{IsTotalOrder, nat_cmp_total, tied_itself}
use Rattle.std.specs.FinMap.{IsAntisymmetric, is_sorted, nat_cmp-IsAntisymmetric}
use Rattle.std.proofs.lemmas.Bool.{lt-ltb}
use Rattle.std.proofs.lemmas.Bool.Decides.{nat_tests}
use Rattle.std.proofs.lemmas.List.{map-append, length-map, nil_from_length}
use Rattle.std.proofs.lemmas.List.Elements.{All-nil, All-append, All-map, All-from_recursion, recursion_from_All, Contains-append_left}
use Rattle.std.proofs.lemmas.List.Elements.{Contains-append_right, filter_map-append}
use Rattle.std.proofs.lemmas.List.Sorted.{All-permutation, IsPermutation-map, length_permutation}
use Rattle.std.proofs.lemmas.List.Sums.{sum_by-append}
use Rattle.std.proofs.lemmas.Simd.{map-map}
use mathlib.Core.Logic.{dite}
use native.Mathlib.Decide.{dec_lt}
use Rattle.mr_base.specs.Tasks.{times, IsApartBelow}
use Rattle.mr_base.proofs.Bridge.{permuted, times-permuted}
use Rattle.mr_base.proofs.Times.{times-append}
use Rattle.mr_common.specs.Laws.{shares_in_any_order}
use Rattle.mr_common.specs.Lawful.{keys}
use Rattle.mr_common.specs.Passes.{row_of}
use Rattle.mr_container.proofs.Counting.{any-ascending, is_some-cell_of}
use Rattle.mr_defs.specs.Emission.{Emission, Pair, Row}
use Rattle.mr_defs.specs.Commutative.{joined, joined_by}
use Rattle.mr_defs.specs.Faulty.{Noted, common_faults_of, twice_of}
use Rattle.mr_defs.specs.Folded.{once_folded}
use Rattle.mr_defs.specs.Keyed.{ascending, at, keys_inside, least, pair_key, value_at}
use Rattle.mr_defs.specs.Rows.{cells_of, rows_of}
use Rattle.mr_defs.specs.Stands.{SharesFor, IsNotedOf, cell_of}
use Rattle.mr_defs.proofs.Ascending.{marked, ascending_sorted}
use Rattle.mr_defs.proofs.Lesser.{lesser_commutative}
use Rattle.mr_phase.specs.Spread.{noted_all}
use Rattle.mr_phase.proofs.Everyone.{each_map, joined_flat, whole_noted}
use Rattle.mr_phase.proofs.Members.{any_times, at_most_once, contained_each, count_is, count_keys, none_least, same_least, sorted_entries}
use Rattle.mr_phase.proofs.Members.{times-filter}
use Rattle.mr_phase.proofs.SameKeys.{keys_inside_sorted, same_keys}

-- what all share is what each does, joined
module _ {K V X : Type 0} {R : K → K → Ordering} (o : IsTotalOrder R) (one : IsAntisymmetric R) (inside : K → Bool)
    (won : X → List (K × V)) (refused : X → List K) (cells : X → ℕ) (noted : X → Noted K) (es_of : X → List (Emission K V)) where
  abbrev Shares : X → Type 0
  Shares x = SharesFor R inside (won x) (refused x) (cells x) (noted x) (es_of x)

  whole_pairs : (xs : List X) → AllByRecursion Shares xs → All (λ w. Contains (flat_map es_of xs) (Pair w.0 w.1)) (flat_map won xs)
  whole_pairs [] h = All-nil (λ w. Contains [] (Pair w.0 w.1))
  whole_pairs (x ∷ xs) h =
      let rest = flat_map es_of xs in
      All-append (λ w. Contains (es_of x ++ rest) (Pair w.0 w.1)) (won x) (flat_map won xs)
      (λ i d lt. Contains-append_left (es_of x) rest (Pair (slice_index_or (won x) i d).0 (slice_index_or (won x) i d).1)
      (h.0.pairs i d lt))
      (λ i d lt. Contains-append_right (es_of x) rest
      (Pair (slice_index_or (flat_map won xs) i d).0 (slice_index_or (flat_map won xs) i d).1) (whole_pairs xs h.1 i d lt))

  whole_counts : (xs : List X) → AllByRecursion Shares xs → (k : K) → IsTrue (inside k)
      → length (at R (flat_map es_of xs) k)
      ≡ count_by (λ w. eq_by_cmp R k w.0) (flat_map won xs) + count_by (eq_by_cmp R k) (flat_map refused xs)
  whole_counts [] h k i = refl
  whole_counts (x ∷ xs) h k i =
      let a = ap length (filter_map-append (value_at R k) (es_of x) (flat_map es_of xs))
      ∙ length-append (at R (es_of x) k) (at R (flat_map es_of xs) k) in
      let b = h.0.counts k i in
      let c = whole_counts xs h.1 k i in
      let d = sum_by-append (λ (w : K × V). cond (eq_by_cmp R k w.0) 1 0) (won x) (flat_map won xs) in
      let e = sum_by-append (λ (w : K). cond (eq_by_cmp R k w) 1 0) (refused x) (flat_map refused xs) in
      omega (arith, a, b, c, d, e)

  pub whole_shares : (xs : List X) → AllByRecursion Shares xs
      → SharesFor R inside (flat_map won xs) (flat_map refused xs) (length (flat_map won xs)) (noted_all R noted xs) (flat_map es_of xs)
  whole_shares xs h = record {
    pairs = whole_pairs xs h;
    counts = whole_counts xs h;
    count = refl;
    faults = whole_noted o one inside noted es_of xs (each_map Shares (λ x. IsNotedOf R inside (noted x) (es_of x)) (λ x s. s.faults) xs h);
    twice = joined_flat (lesser_commutative o one) (λ k. Some k) (λ x. (noted x).twice) refused xs
        (each_map Shares (λ x. (noted x).twice ≡ least R (refused x)) (λ x s. s.twice) xs h);
  }

-- how often a key stands among the keys inside
nonzero : (n : ℕ) → true ≡ not (suc n == 0)
nonzero n = grind (arith, nat_tests)

is_some_cell : (vs : List ℤ) → is_some (cell_of (λ v. tt {0}) (λ a b. tt) vs) ≡ not (length vs == 0)
is_some_cell [] = refl
is_some_cell (v ∷ vs) = some_first (joined_by (λ a b. tt) (λ v. Some (tt {0})) vs) (length vs)
  where
    some_first : (c : Option (Unit {0})) (n : ℕ) → is_some (joined (λ a b. tt) (Some (tt {0})) c) ≡ not (suc n == 0)
    some_first None n = nonzero n
    some_first (Some u) n = nonzero n

module _ (inside : ℕ → Bool) (es : List (Emission ℕ ℤ)) where
  times_inside : (k : ℕ) → times k (keys_inside nat_cmp inside es) ≡ cond (inside k) (cond (length (at nat_cmp es k) == 0) 0 1) 0
  times_inside k =
      let all = filter_map pair_key es in
      let ks = ascending nat_cmp all in
      let sorted = at_most_once k ks (ascending_sorted nat_cmp nat_cmp_total all) in
      let any = sym (any_times k ks) ∙ any-ascending nat_cmp nat_cmp-IsAntisymmetric k all
      ∙ sym (is_some-cell_of nat_cmp (λ v. tt {0}) (λ a b. tt) es k) ∙ is_some_cell (at nat_cmp es k) in
      let f = times-filter inside k ks in
      grind (arith, nat_tests, sorted, any, f)

-- the values of a key of which one is known, where there are no more
module _ (k : ℕ) (v : ℤ) where
  found : value_at nat_cmp k (Pair k v) ≡ Some v
  found = ap (λ r. if is_eq r then Some v else None) (tied_itself nat_cmp_total k)

  first_value : (w : Option ℤ) (vs : List ℤ) → w ≡ Some v → length (cons_option w vs) ≤ 1 → cons_option w vs ≡ v ∷ []
  first_value w vs e few = ap (λ o. cons_option o vs) e
      ∙ ap (λ l. v ∷ l) (nil_from_length vs
      (let f : length (cons_option (Some v) vs) ≤ 1 = subst (λ o. length (cons_option o vs) ≤ 1) e few in omega (arith, f)))

  later_value : (w : Option ℤ) (vs : List ℤ) → (length vs ≤ 1 → vs ≡ v ∷ []) → length (cons_option w vs) ≤ 1 → cons_option w vs ≡ v ∷ []
  later_value None vs rest few = rest few
  later_value (Some u) vs rest few =
      let is = rest (omega (arith, few)) in
      let one = ap length is in
      absurd (omega (arith, few, one))

  only_value : (es : List (Emission ℕ ℤ)) (i : ℕ) → i < length es → slice_index_or es i (Pair k v) ≡ Pair k v
      → length (at nat_cmp es k) ≤ 1 → at nat_cmp es k ≡ v ∷ []
  only_value [] i lt is few = absurd (omega (arith, lt))
  only_value (e ∷ es) zero lt is few = first_value (value_at nat_cmp k e) (at nat_cmp es k) (ap (value_at nat_cmp k) is ∙ found) few
  only_value (e ∷ es) (suc i) lt is few = later_value (value_at nat_cmp k e) (at nat_cmp es k) (only_value es i (omega (arith, lt)) is) few

-- rows whose answers are the values of their keys
rows_by_keys : (es : List (Emission ℕ ℤ)) (rows : List (Row ℕ)) → AllByRecursion (λ row. at nat_cmp es row.0 ≡ row.1) rows
    → rows ≡ filter_map (λ k. option_map (λ a. (k, a)) (once_folded (at nat_cmp es k))) (map (λ row. row.0) rows)
rows_by_keys es [] h = refl
rows_by_keys es (row ∷ rows) h = λ i. (row.0, sym h.0 i) ∷ rows_by_keys es rows h.1 i

module _ {X : Type 0} (n : ℕ) (won : X → List (ℕ × ℤ)) (refused : X → List ℕ) (cells : X → ℕ) (noted : X → Noted ℕ)
    (es_of : X → List (Emission ℕ ℤ)) (xs : List X)
    (shares : AllByRecursion (λ x. SharesFor nat_cmp (λ k. nat_lt k n) (won x) (refused x) (cells x) (noted x) (es_of x)) xs)
    (below : AllByRecursion (λ x. IsApartBelow n (keys (won x))) xs) where
  keys_below : (k : ℕ) (ys : List X) → AllByRecursion (λ x. IsApartBelow n (keys (won x))) ys → n ≤ k → times k (keys (flat_map won ys)) ≡ 0
  keys_below k [] h past = refl
  keys_below k (y ∷ ys) h past =
      let a = ap (times k) (map-append (λ (p : ℕ × ℤ). p.0) (won y) (flat_map won ys))
      ∙ times-append k (keys (won y)) (keys (flat_map won ys)) in
      let b = h.0 k in
      let c = keys_below k ys h.1 past in
      grind (arith, nat_tests, a, b, c, past)

  -- where none was refused a key, each worker won a pair of every key that it emitted
  each_cells : (ys : List X)
      → AllByRecursion (λ x. SharesFor nat_cmp (λ k. nat_lt k n) (won x) (refused x) (cells x) (noted x) (es_of x)) ys
      → AllByRecursion (λ x. IsApartBelow n (keys (won x))) ys → ((k : ℕ) → times k (flat_map refused ys) ≡ 0)
      → AllByRecursion (λ x. cells x ≡ cells_of nat_cmp (λ k. nat_lt k n) (es_of x)) ys
  each_cells [] h low none = tt
  each_cells (y ∷ ys) h low none = (
    (let same = permuted (keys (won y)) (keys_inside nat_cmp (λ k. nat_lt k n) (es_of y)) (λ k.
        let t = times_inside (λ k. nat_lt k n) (es_of y) k in
        let a = low.0 k in
        let z = none k in
        let p = times-append k (refused y) (flat_map refused ys) in
        let w = count_keys k (won y) in
        let r = count_is k (refused y) in
        dite (dec_lt k n)
        (λ lt. let c = h.0.counts k (lt-ltb k n lt) in grind (arith, nat_tests, t, a, z, p, w, r, c, lt))
        (λ no. grind (arith, nat_tests, t, a, no))) in
        h.0.count ∙ sym (length-map (won y) (λ p. p.0))
        ∙ sym (length_permutation (keys (won y)) (keys_inside nat_cmp (λ k. nat_lt k n) (es_of y)) same)),
    each_cells ys h.1 low.1 (λ k. let z = none k in let p = times-append k (refused y) (flat_map refused ys) in omega (arith, z, p)),
  )

  pairs_below : (ps : List (ℕ × ℤ)) → ((k : ℕ) → n ≤ k → times k (keys ps) ≡ 0) → AllByRecursion (λ p. p.0 < n) ps
  pairs_below [] h = tt
  pairs_below (p ∷ ps) h = (
    dite (dec_lt p.0 n) (λ lt. lt) (λ no. absurd (let z = h p.0 (omega (arith, no)) in grind (arith, nat_tests, z))),
    pairs_below ps (λ k past. let z = h k past in omega (arith, z)),
  )

  module _ (rows : List (Row ℕ)) (ascends : IsStrictlySortedBy nat_cmp (map (λ row. row.0) rows))
      (are : IsPermutation (map row_of (flat_map won xs)) rows)
      (taken : All (Contains (keys (flat_map won xs))) (flat_map refused xs)) (es : List (Emission ℕ ℤ))
      (same : IsPermutation (flat_map es_of xs) es) where
    whole : SharesFor nat_cmp (λ k. nat_lt k n) (flat_map won xs) (flat_map refused xs) (length (flat_map won xs))
        (noted_all nat_cmp noted xs) es
    whole = shares_in_any_order nat_cmp_total nat_cmp-IsAntisymmetric (λ k. nat_lt k n) _ _ _ _ (flat_map es_of xs) es same
        (whole_shares nat_cmp_total nat_cmp-IsAntisymmetric (λ k. nat_lt k n) won refused cells noted es_of xs shares)

    row_keys : List ℕ
    row_keys = map (λ row. row.0) rows

    sorted : T (is_sorted nat_cmp (marked row_keys))
    unfolding row_keys
    sorted = sorted_entries (map (λ row. row.0) rows) ascends

    times_rows : (k : ℕ) → times k row_keys ≡ times k (keys (flat_map won xs))
    unfolding row_keys
    times_rows k = times-permuted k (keys (flat_map won xs)) (map (λ row. row.0) rows)
        (subst (λ l. IsPermutation l (map (λ (row : Row ℕ). row.0) rows)) (map-map (λ (row : Row ℕ). row.0) row_of (flat_map won xs))
        (IsPermutation-map (λ (row : Row ℕ). row.0) (map row_of (flat_map won xs)) rows are))

    counts : (k : ℕ) → k < n → length (at nat_cmp es k) ≡ times k row_keys + times k (flat_map refused xs)
    counts k lt =
        let c = whole.counts k (lt-ltb k n lt) in
        let w = count_keys k (flat_map won xs) in
        let r = count_is k (flat_map refused xs) in
        let t = times_rows k in
        omega (arith, c, w, r, t)

    -- the keys of the rows are those that were emitted
    same_times : (k : ℕ) → times k row_keys ≡ times k (keys_inside nat_cmp (λ k. nat_lt k n) es)
    same_times k =
        let i = times_inside (λ k. nat_lt k n) es k in
        let t = times_rows k in
        let m = at_most_once k row_keys sorted in
        dite (dec_lt k n)
        (λ lt. let c = counts k lt in
        dite (dec_lt 0 (times k (flat_map refused xs)))
        (λ some. let w = contained_each k (keys (flat_map won xs)) (flat_map refused xs) taken some in
        grind (arith, nat_tests, i, t, m, c, w, lt))
        (λ none. grind (arith, nat_tests, i, t, m, c, none, lt)))
        (λ no. let z = keys_below k xs below (omega (arith, no)) in grind (arith, nat_tests, i, t, z, no))

    pub keys_are : map (λ row. row.0) rows ≡ keys_inside nat_cmp (λ k. nat_lt k n) es
    unfolding row_keys
    keys_are = same_keys nat_cmp nat_cmp_total nat_cmp-IsAntisymmetric (map (λ row. row.0) rows)
        (keys_inside nat_cmp (λ k. nat_lt k n) es) sorted (keys_inside_sorted nat_cmp_total (λ k. nat_lt k n) es)
        (λ k. any_times k (map (λ row. row.0) rows) ∙ ap (λ t. not (t == 0)) (same_times k)
        ∙ sym (any_times k (keys_inside nat_cmp (λ k. nat_lt k n) es)))

    -- the keys that were refused are those that stand in more than one pair
    abbrev twice_keys : List ℕ
    twice_keys = filter (λ k. nat_lt 1 (length (at nat_cmp es k))) (keys_inside nat_cmp (λ k. nat_lt k n) es)

    times_twice : (k : ℕ) → times k twice_keys ≡ cond (nat_lt 1 (length (at nat_cmp es k))) (times k row_keys) 0
    times_twice k = times-filter (λ k. nat_lt 1 (length (at nat_cmp es k))) k (keys_inside nat_cmp (λ k. nat_lt k n) es)
        ∙ ap (λ t. cond (nat_lt 1 (length (at nat_cmp es k))) t 0) (sym (same_times k))

    refused_twice : (k : ℕ) → 1 ≤ times k (flat_map refused xs) → 1 ≤ times k twice_keys
    refused_twice k some =
        let w = contained_each k (keys (flat_map won xs)) (flat_map refused xs) taken some in
        let t = times_rows k in
        let f = times_twice k in
        dite (dec_lt k n)
        (λ lt. let c = counts k lt in grind (arith, nat_tests, w, t, f, c, some))
        (λ no. let z = keys_below k xs below (omega (arith, no)) in absurd (omega (arith, w, z)))

    twice_refused : (k : ℕ) → 1 ≤ times k twice_keys → 1 ≤ times k (flat_map refused xs)
    twice_refused k some =
        let t = times_rows k in
        let f = times_twice k in
        let m = at_most_once k row_keys sorted in
        dite (dec_lt k n)
        (λ lt. let c = counts k lt in grind (arith, nat_tests, t, f, m, c, some))
        (λ no. let z = keys_below k xs below (omega (arith, no)) in grind (arith, nat_tests, t, f, z, some))

    twice_is : (noted_all nat_cmp noted xs).twice ≡ twice_of nat_cmp (λ k. nat_lt k n) es
    twice_is = whole.twice ∙ same_least (flat_map refused xs) twice_keys refused_twice twice_refused

    pub faults_are : noted_all nat_cmp noted xs ≡ common_faults_of nat_cmp (λ k. nat_lt k n) es
    faults_are = λ i. record {
      malformed = whole.faults.malformed i;
      outside = whole.faults.outside i;
      twice = twice_is i;
      over = whole.faults.over i;
    }

    -- where no key stands in two pairs
    module _ (once : twice_of nat_cmp (λ k. nat_lt k n) es ≡ None) where
      none_refused : (k : ℕ) → times k (flat_map refused xs) ≡ 0
      none_refused = none_least (flat_map refused xs) (sym whole.twice ∙ twice_is ∙ once)

      values_are : All (λ p. at nat_cmp es p.0 ≡ p.1 ∷ []) (flat_map won xs)
      values_are i d lt =
          let p = slice_index_or (flat_map won xs) i d in
          let there = whole.pairs i d lt in
          let low = All-from_recursion (λ q. q.0 < n) (flat_map won xs)
          (pairs_below (flat_map won xs) (λ k past. keys_below k xs below past)) i d lt in
          let c = counts p.0 low in
          let m = at_most_once p.0 row_keys sorted in
          let z = none_refused p.0 in
          only_value p.0 p.1 es there.0 there.1 there.2 (omega (arith, c, m, z))

      pub rows_are : rows ≡ rows_of nat_cmp (λ k. nat_lt k n) once_folded es
      rows_are = rows_by_keys es rows (recursion_from_All (λ row. at nat_cmp es row.0 ≡ row.1) rows
          (All-permutation (λ row. at nat_cmp es row.0 ≡ row.1) (map row_of (flat_map won xs)) rows are
          (All-map (λ row. at nat_cmp es row.0 ≡ row.1) row_of (flat_map won xs) values_are)))
          ∙ ap (filter_map (λ k. option_map (λ a. (k, a)) (once_folded (at nat_cmp es k)))) keys_are

      pub cells_are : AllByRecursion (λ x. cells x ≡ cells_of nat_cmp (λ k. nat_lt k n) (es_of x)) xs
      cells_are = each_cells xs shares below none_refused
