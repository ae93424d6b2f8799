-- Rows that were spread over lists are, merged again, the rows of the emissions.
use Rattle.std.proofs.Common.{◌≡◌, Bool, true, false, cond, ◌&&◌, T, List, [], ◌∷◌, map, filter, filter_map, Option, Some, None}
use Rattle.std.proofs.Common.{option_map, Ok, Err, length, append-nil, refl, sym, ap, subst, ◌∙◌, arith}
use Rattle.std.specs.Prelude.{All, IfOk}
use Rattle.std.specs.declared.result.Result.{Result}
use Rattle.std.specs.List.{AllByRecursion, IsDistinct, cons_option}
use Rattle.std.specs.Option.{option_map_or}
use Rattle.std.specs.List.Sorted.{IsPermutation, IsStrictlySortedBy}
use Rattle.std.specs.declared.cmp.Ordering.{Ordering}
use Rattle.std.specs.declared.cmp.Ordering.TheVariants.{Less, Equal, Greater}
use Rattle.std.specs.Ordering.{eq_by_cmp, is_lt}
use Rattle.std.specs.Cmp.{IsTotalOrder, eq_by_cmp_equiv}
use Rattle.std.specs.FinMap.{IsAntisymmetric, find, is_sorted}
use Rattle.std.specs.FinMap.Entries.{below_all, same_entries}
use Rattle.std.proofs.lemmas.List.Elements.{All-cons, All-head, All-nil}
use Rattle.std.proofs.lemmas.List.Sorted.{Contains-permutation, IsPermutation-sym, IsPermutation-trans}
use Rattle.std.proofs.lemmas.Map.Keys.{IsDistinct-from_sorted}
use Rattle.std.proofs.lemmas.Map.Views.{Contains-from_lookup, lookup-from_Contains, tells_apart}
use Rattle.mr_defs.specs.Emission.{Emission, Answer, Row}
use Rattle.mr_defs.specs.Keyed.{at, keys, keys_inside, pair_key}
use Rattle.mr_defs.specs.Partitions.{IsSpread, concatenated}
use Rattle.mr_defs.specs.Faulty.{Noted, fault_of, first_of}
use Rattle.mr_defs.specs.Rounds.{round_of}
use Rattle.mr_defs.specs.Rows.{rows_of}
use Rattle.mr_defs.specs.declared.Fault.{Fault}
use Rattle.mr_merge.specs.Merged.{AreMerged, CanMerge}
use Rattle.mr_phase.specs.Spread.{IsSpreadOf}
use Rattle.mr_phase.proofs.Final.{first_fault}
use Rattle.mr_defs.proofs.Ascending.{ascending_sorted, marked}

both : (a b : Bool) → T a → T b → T (a && b)
both true b p q = q
both false b p q = absurd p

first : (a b : Bool) → T (a && b) → T a
first true b p = tt
first false b p = p

second : (a b : Bool) → T (a && b) → T b
second true b p = p
second false b p = absurd p

is_Less : (r : Ordering) → T (is_lt r) → r ≡ Less
is_Less Less p = refl
is_Less Equal p = absurd p
is_Less Greater p = absurd p

module _ {K X : Type 0} (R : K → K → Ordering) where
  below : (x : K) (es : List (K × X)) → AllByRecursion (λ y. R x y ≡ Less) (map (λ e. e.0) es) → T (below_all R x es)
  below x [] h = tt
  below x (e ∷ es) h = both _ _ (subst (λ r. T (is_lt r)) (sym h.0) tt) (below x es h.1)

  -- entries whose keys ascend
  entries_ascend : (es : List (K × X)) → IsStrictlySortedBy R (map (λ e. e.0) es) → T (is_sorted R es)
  unfolding IsStrictlySortedBy
  entries_ascend [] h = tt
  entries_ascend (e ∷ es) h = both _ _ (below e.0 es h.0) (entries_ascend es h.1)

module _ {K X : Type 0} {R : K → K → Ordering} (o : IsTotalOrder R) (one : IsAntisymmetric R) where
  found : (xs ys : List (K × X)) → IsPermutation xs ys → IsStrictlySortedBy R (map (λ e. e.0) ys) → (q : K) (v : X) → find R q xs ≡ Some v
      → find R q ys ≡ Some v
  found xs ys same sorted q v e = lookup-from_Contains (eq_by_cmp_equiv o) q v ys (IsDistinct-from_sorted R (map (λ e. e.0) ys) sorted)
      (Contains-permutation xs ys (q, v) same (Contains-from_lookup (tells_apart one) q v xs e))

  pub found_same : (xs ys : List (K × X)) → IsPermutation xs ys → IsStrictlySortedBy R (map (λ e. e.0) xs)
      → IsStrictlySortedBy R (map (λ e. e.0) ys) → (q : K) → find R q xs ≡ find R q ys
  found_same xs ys same one_way other_way q =
      elim (find R q xs) as (λ f. find R q xs ≡ f → f ≡ find R q ys) [
        | Some v ↦ λ e. sym (found xs ys same other_way q v e)
        | None ↦ λ e. elim (find R q ys) as (λ g. find R q ys ≡ g → None ≡ g) [
          | None ↦ λ f. refl
          | Some v ↦ λ f. sym e ∙ found ys xs (IsPermutation-sym xs ys same) one_way q v f
        ] refl
      ] refl

  -- one list in two orders, in both of which its keys ascend
  pub one_order : (xs ys : List (K × X)) → IsPermutation xs ys → IsStrictlySortedBy R (map (λ e. e.0) xs)
      → IsStrictlySortedBy R (map (λ e. e.0) ys) → xs ≡ ys
  one_order xs ys same one_way other_way = same_entries R o one xs ys (entries_ascend R xs one_way) (entries_ascend R ys other_way)
      (found_same xs ys same one_way other_way)

module _ {K A : Type 0} (R : K → K → Ordering) (f : K → Option A) where
  abbrev row : K → Option (K × A)
  row k = option_map (λ a. (k, a)) (f k)

  row_behind : (x : K) (ks : List K) → T (below_all R x (marked ks))
      → AllByRecursion (λ y. R x y ≡ Less) (map (λ r. r.0) (filter_map row ks))
  row_behind x [] h = tt
  row_behind x (k ∷ ks) h =
      elim (f k) as (λ a. AllByRecursion (λ y. R x y ≡ Less)
      (map (λ r. r.0) (cons_option (option_map (λ a. (k, a)) a) (filter_map row ks)))) [
        | None ↦ row_behind x ks (second _ _ h)
        | Some a ↦ (is_Less (R x k) (first _ _ h), row_behind x ks (second _ _ h))
      ]

  -- the rows of keys that ascend
  rows_ascend : (ks : List K) → T (is_sorted R (marked ks)) → IsStrictlySortedBy R (map (λ r. r.0) (filter_map row ks))
  unfolding IsStrictlySortedBy
  rows_ascend [] h = tt
  rows_ascend (k ∷ ks) h =
      elim (f k) as (λ a. IsStrictlySortedBy R (map (λ r. r.0) (cons_option (option_map (λ a. (k, a)) a) (filter_map row ks)))) [
        | None ↦ rows_ascend ks (second _ _ h)
        | Some a ↦ (row_behind k ks (first _ _ h), rows_ascend ks (second _ _ h))
      ]

module _ {K : Type 0} (R : K → K → Ordering) (p : K → Bool) where
  kept_behind : (x : K) (ks : List K) → T (below_all R x (marked ks)) → T (below_all R x (marked (filter p ks)))
  kept_behind x [] h = tt
  kept_behind x (k ∷ ks) h = elim (p k) as (λ b. T (below_all R x (marked (cond b (k ∷ filter p ks) (filter p ks))))) [
    | true ↦ both _ _ (first _ _ h) (kept_behind x ks (second _ _ h))
    | false ↦ kept_behind x ks (second _ _ h)
  ]

  kept_ascend : (ks : List K) → T (is_sorted R (marked ks)) → T (is_sorted R (marked (filter p ks)))
  kept_ascend [] h = tt
  kept_ascend (k ∷ ks) h = elim (p k) as (λ b. T (is_sorted R (marked (cond b (k ∷ filter p ks) (filter p ks))))) [
    | true ↦ both _ _ (kept_behind k ks (first _ _ h)) (kept_ascend ks (second _ _ h))
    | false ↦ kept_ascend ks (second _ _ h)
  ]

module _ {K V : Type 0} {R : K → K → Ordering} (o : IsTotalOrder R) (one : IsAntisymmetric R) (inside : K → Bool)
    (folded : List V → Option Answer) (es : List (Emission K V)) where
  pub rows_of_ascend : IsStrictlySortedBy R (map (λ r. r.0) (rows_of R inside folded es))
  rows_of_ascend = rows_ascend R (λ k. folded (at R es k)) (keys_inside R inside es)
      (kept_ascend R inside (keys R es) (ascending_sorted R o (filter_map pair_key es)))

  -- the lists together have the rows of the emissions, and the merged list has theirs and ascends
  pub merged_rows : (lists : List (List (Row K))) (rows : List (Row K)) → IsSpread R (rows_of R inside folded es) lists
      → IsPermutation (concatenated lists) rows → IsStrictlySortedBy R (map (λ r. r.0) rows) → rows ≡ rows_of R inside folded es
  merged_rows lists rows spread merged ascends =
      sym (one_order o one (rows_of R inside folded es) rows
      (IsPermutation-trans (rows_of R inside folded es) (concatenated lists) rows spread.all merged) rows_of_ascend ascends)

  module _ (lists : List (List (Row K))) (noted : Noted K) (spread : IsSpreadOf R inside folded lists noted es) where
    first_is : first_of noted ≡ fault_of R inside folded es
    first_is = first_fault R inside folded (rows_of R inside folded es) noted es spread.faults

    -- the round has the fault that was noted first
    pub round_refused : (fault : Fault K) → Some fault ≡ first_of noted → round_of R inside false folded es ≡ Err fault
    round_refused fault is = ap (λ f. option_map_or Err f (Ok (rows_of R inside folded es))) (sym (is ∙ first_is))

    -- or, where none was, these rows
    pub round_passed : (rows : List (Row K)) → None ≡ first_of noted → IsPermutation (concatenated lists) rows
        → IsStrictlySortedBy R (map (λ r. r.0) rows) → round_of R inside false folded es ≡ Ok rows
    round_passed rows is merged ascends =
        ap (λ f. option_map_or Err f (Ok (rows_of R inside folded es))) (sym (is ∙ first_is))
        ∙ ap Ok (sym (merged_rows lists rows spread.rows merged ascends))

-- of one list that ascends all keys differ
pub one_list : {K A : Type 0} (R : K → K → Ordering) (lists : List (List (K × A))) → length lists ≡ 1
    → All (λ list. IsStrictlySortedBy R (map (λ row. row.0) list)) lists
    → IsDistinct (eq_by_cmp R) (map (λ row. row.0) (concatenated lists))
one_list R [] one all = absurd (omega (arith, one))
one_list R (l ∷ []) one all =
    subst (λ rows. IsDistinct (eq_by_cmp R) (map (λ row. row.0) rows)) (sym (append-nil l))
    (IsDistinct-from_sorted R (map (λ row. row.0) l) (All-head (λ list. IsStrictlySortedBy R (map (λ row. row.0) list)) l [] all))
one_list R (l ∷ m ∷ ls) one all = absurd (omega (arith, one))

pub only_differ : {K A B E : Type 0} (R : K → K → Ordering) (lists : B → List (List (K × A))) (result : Result B E)
    → IfOk result (λ r. length (lists r) ≡ 1) → IfOk result (λ r. All (λ list. IsStrictlySortedBy R (map (λ row. row.0) list)) (lists r))
    → IfOk result (λ r. IsDistinct (eq_by_cmp R) (map (λ row. row.0) (concatenated (lists r))))
only_differ R lists (Ok r) one all = one_list R (lists r) one all
only_differ R lists (Err e) one all = tt

pub weaker : {B E : Type 0} (result : Result B E) (P Q : B → Type 0) → ((b : B) → P b → Q b) → IfOk result P → IfOk result Q
weaker (Ok b) P Q step p = step b p
weaker (Err e) P Q step p = tt

-- one list that ascends can be merged, and is merged as it stands
pub one_can : {K A : Type 0} (R : K → K → Ordering) (list : List (K × A)) → IsStrictlySortedBy R (map (λ row. row.0) list)
    → CanMerge R (list ∷ [])
one_can R list ascends =
    let all = All-cons (λ l. IsStrictlySortedBy R (map (λ row. row.0) l)) list [] ascends
    (All-nil (λ l. IsStrictlySortedBy R (map (λ row. row.0) l))) in
    record { ascend = all; differ = one_list R (list ∷ []) refl all }

pub one_is : {K A : Type 0} {R : K → K → Ordering} (o : IsTotalOrder R) (one : IsAntisymmetric R) (list rows : List (K × A))
    → IsStrictlySortedBy R (map (λ row. row.0) list) → AreMerged R (list ∷ []) rows → rows ≡ list
one_is o one list rows ascends merged =
    sym (one_order o one list rows (subst (λ l. IsPermutation l rows) (append-nil list) merged.all) ascends merged.ascend)
