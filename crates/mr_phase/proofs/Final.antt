-- Entries that ascend and have the cell of each key give the rows and the faults of the emissions.
use Rattle.std.proofs.Common.{◌≡◌, ℕ, Bool, true, false, cond, if◌then◌else◌, T, List, [], ◌∷◌, map, filter, filter_map, Option, Some, None}
use Rattle.std.proofs.Common.{is_none, option_map, IfSome, refl, sym, ap, subst, ◌∙◌}
use Rattle.std.specs.List.{AllByRecursion, cons_option}
use Rattle.std.specs.List.Sorted.{IsStrictlySortedBy}
use Rattle.std.specs.declared.cmp.Ordering.{Ordering}
use Rattle.std.specs.declared.cmp.Ordering.TheVariants.{Less}
use Rattle.std.specs.Ordering.{eq_by_cmp, is_eq, ordering_reverse}
use Rattle.std.specs.Cmp.{IsTotalOrder, tied_itself}
use Rattle.std.specs.FinMap.{IsAntisymmetric, find, is_sorted}
use Rattle.std.specs.FinMap.Entries.{below_all}
use Rattle.mr_defs.specs.Emission.{Emission, Answer, Row}
use Rattle.mr_defs.specs.Commutative.{joined, joined_by}
use Rattle.mr_defs.specs.CommutativeLaws.{joined_by-append}
use Rattle.mr_defs.specs.Keyed.{at, keys_inside, large_key, lesser, least}
use Rattle.mr_defs.specs.Faulty.{large_of, over_of, first_of, fault_of, Noted}
use Rattle.mr_defs.specs.Rows.{rows_of}
use Rattle.mr_defs.specs.Stands.{StandsFor, cell_of}
use Rattle.mr_defs.proofs.Lesser.{lesser_commutative}
use Rattle.mr_combine.specs.Fold.{IsFoldOf, outcome}
use Rattle.mr_container.proofs.Orders.{is_Less, both_first, both_second}
use Rattle.mr_phase.specs.Reduced.{IsReduced, entry_row, over_key}
use Rattle.mr_phase.proofs.SameKeys.{keys_are}

-- each entry is the one that its key finds
differs : {K : Type 0} {R : K → K → Ordering} (o : IsTotalOrder R) (x e : K) → R x e ≡ Less → eq_by_cmp R e x ≡ false
differs o x e h = ap is_eq (o.antisymm e x ∙ ap ordering_reverse h)

module _ {K C : Type 0} {R : K → K → Ordering} (o : IsTotalOrder R) where
  found_behind : (x : K × C) (all part : List (K × C)) → T (below_all R x.0 part) → AllByRecursion (λ e. find R e.0 all ≡ Some e.1) part
      → AllByRecursion (λ e. find R e.0 (x ∷ all) ≡ Some e.1) part
  found_behind x all [] h f = tt
  found_behind x all (e ∷ es) h f = (
    ap (λ t. cond t (Some x.1) (find R e.0 all)) (differs o x.0 e.0 (is_Less _ (both_first _ _ h))) ∙ f.0,
    found_behind x all es (both_second _ _ h) f.1,
  )

  found_each : (es : List (K × C)) → T (is_sorted R es) → AllByRecursion (λ e. find R e.0 es ≡ Some e.1) es
  found_each [] h = tt
  found_each (e ∷ es) h = (
    ap (λ r. cond (is_eq r) (Some e.1) (find R e.0 es)) (tied_itself o e.0),
    found_behind e es es (both_first _ _ h) (found_each es (both_second _ _ h)),
  )

-- the rows of entries ascend with them
module _ {K C : Type 0} (R : K → K → Ordering) (over : C → Bool) (answer : C → Answer) where
  abbrev row_keys : List (K × C) → List K
  row_keys es = map (λ r. r.0) (filter_map (entry_row over answer) es)

  rows_behind : (x : K) (es : List (K × C)) → T (below_all R x es) → AllByRecursion (λ y. R x y ≡ Less) (row_keys es)
  rows_behind x [] h = tt
  rows_behind x (e ∷ es) h = elim (over e.1) as (λ b. AllByRecursion (λ y. R x y ≡ Less)
      (map (λ r. r.0)
      (cons_option (option_map (λ a. (e.0, a)) (if b then None else Some (answer e.1))) (filter_map (entry_row over answer) es)))) [
        | true ↦ rows_behind x es (both_second _ _ h)
        | false ↦ (is_Less _ (both_first _ _ h), rows_behind x es (both_second _ _ h))
      ]

  pub rows_ascend : (es : List (K × C)) → T (is_sorted R es) → IsStrictlySortedBy R (row_keys es)
  unfolding IsStrictlySortedBy
  rows_ascend [] h = tt
  rows_ascend (e ∷ es) h = elim (over e.1) as (λ b. IsStrictlySortedBy R
      (map (λ r. r.0)
      (cons_option (option_map (λ a. (e.0, a)) (if b then None else Some (answer e.1))) (filter_map (entry_row over answer) es)))) [
        | true ↦ rows_ascend es (both_second _ _ h)
        | false ↦ (rows_behind e.0 es (both_first _ _ h), rows_ascend es (both_second _ _ h))
      ]

-- where each entry gives what its key gives
module _ {K C Y : Type 0} (f : K × C → Option Y) (g : K → Option Y) where
  filter_map_keys : (es : List (K × C)) → AllByRecursion (λ e. f e ≡ g e.0) es → filter_map f es ≡ filter_map g (map (λ e. e.0) es)
  filter_map_keys [] h = refl
  filter_map_keys (e ∷ es) h = ap (λ y. cons_option y (filter_map f es)) h.0 ∙ ap (cons_option (g e.0)) (filter_map_keys es h.1)

  joined_keys : (op : Y → Y → Y) (es : List (K × C)) → AllByRecursion (λ e. f e ≡ g e.0) es
      → joined_by op f es ≡ joined_by op g (map (λ e. e.0) es)
  joined_keys op [] h = refl
  joined_keys op (e ∷ es) h = ap (λ y. joined op y (joined_by op f es)) h.0 ∙ ap (joined op (g e.0)) (joined_keys op es h.1)

least-filter : {K : Type 0} (R : K → K → Ordering) (p : K → Bool) (ks : List K)
    → joined_by (lesser R) (λ k. if p k then Some k else None) ks ≡ least R (filter p ks)
least-filter R p [] = refl
least-filter R p (k ∷ ks) = elim (p k) as (λ t. joined (lesser R) (if t then Some k else None)
    (joined_by (lesser R) (λ k. if p k then Some k else None) ks)
    ≡ least R (cond t (k ∷ filter p ks)
    (filter p ks))) [ true ↦ ap (joined (lesser R) (Some k)) (least-filter R p ks) | false ↦ least-filter R p ks ]

only_inside : {C : Type 0} (b : Bool) (x : Option C) (c : C) → (if b then x else None) ≡ Some c → x ≡ Some c
only_inside true x c e = e
only_inside false x c e = absurd (no c e)
  where
    no : {C : Type 0} (c : C) → None ≡ Some c → ⊥
    no c e = cc

module _ {K V C : Type 0} {R : K → K → Ordering} (o : IsTotalOrder R) (one : IsAntisymmetric R) (inside : K → Bool) (unit : V → C)
    (merged : C → C → C) (over : C → Bool) (answer : C → Answer) (folded : List V → Option Answer)
    (fold : IsFoldOf unit merged over answer folded) (es : List (Emission K V)) where
  -- the entry's cell comes to what the values of its key fold to
  abbrev Comes : K × C → Type 0
  Comes e = folded (at R es e.0) ≡ outcome over answer e.1

  comes : (e : K × C) → (if inside e.0 then cell_of unit merged (at R es e.0) else None) ≡ Some e.1 → Comes e
  comes e h =
      subst (λ x. IfSome x (λ c. folded (at R es e.0) ≡ outcome over answer c)) (only_inside (inside e.0) _ e.1 h) (fold (at R es e.0))

  comes_each : (all part : List (K × C)) → ((k : K) → find R k all ≡ (if inside k then cell_of unit merged (at R es k) else None))
      → AllByRecursion (λ e. find R e.0 all ≡ Some e.1) part → AllByRecursion Comes part
  comes_each all [] found f = tt
  comes_each all (e ∷ part) found f = (comes e (sym (found e.0) ∙ f.0), comes_each all part found f.1)

  row_each : (part : List (K × C)) → AllByRecursion Comes part
      → AllByRecursion (λ e. entry_row over answer e ≡ option_map (λ a. (e.0, a)) (folded (at R es e.0))) part
  row_each [] h = tt
  row_each (e ∷ part) h = (ap (option_map (λ a. (e.0, a))) (sym h.0), row_each part h.1)

  over_outcome : (e : K × C) (b : Bool)
      → (if b then Some e.0 else None) ≡ (if is_none (if b then None else Some (answer e.1)) then Some e.0 else None)
  over_outcome e true = refl
  over_outcome e false = refl

  over_each : (part : List (K × C)) → AllByRecursion Comes part
      → AllByRecursion (λ e. over_key over e ≡ (if is_none (folded (at R es e.0)) then Some e.0 else None)) part
  over_each [] h = tt
  over_each (e ∷ part) h = (over_outcome e (over e.1) ∙ ap (λ x. if is_none x then Some e.0 else None) (sym h.0), over_each part h.1)

  module _ (entries : List (K × C)) (sorted : T (is_sorted R entries))
      (found : (k : K) → find R k entries ≡ (if inside k then cell_of unit merged (at R es k) else None)) where
    each : AllByRecursion Comes entries
    each = comes_each entries entries found (found_each o entries sorted)

    same : map (λ e. e.0) entries ≡ keys_inside R inside es
    same = keys_are o one inside unit merged entries sorted es found

    rows_are : filter_map (entry_row over answer) entries ≡ rows_of R inside folded es
    rows_are =
        filter_map_keys (entry_row over answer) (λ k. option_map (λ a. (k, a)) (folded (at R es k))) entries (row_each entries each)
        ∙ ap (filter_map (λ k. option_map (λ a. (k, a)) (folded (at R es k)))) same

    over_is : joined (lesser R) (large_of R inside es) (joined_by (lesser R) (over_key over) entries) ≡ over_of R inside folded es
    over_is =
        ap (joined (lesser R) (large_of R inside es))
        (joined_keys (over_key over) (λ k. if is_none (folded (at R es k)) then Some k else None) (lesser R) entries
        (over_each entries each)
        ∙ ap (joined_by (lesser R) (λ k. if is_none (folded (at R es k)) then Some k else None)) same
        ∙ least-filter R (λ k. is_none (folded (at R es k))) (keys_inside R inside es))
        ∙ sym (joined_by-append (lesser_commutative o one) (λ k. Some k) (filter inside (filter_map large_key es))
        (filter (λ k. is_none (folded (at R es k))) (keys_inside R inside es)))

  -- the rows of the entries of a local, and its faults with the least key that is over
  module _ (cell : K → Option C) (cells : ℕ) (noted : Noted K) (stands : StandsFor R inside unit merged cell cells noted es)
      (entries : List (K × C)) (sorted : T (is_sorted R entries)) (found : (k : K) → find R k entries ≡ cell k) where
    pub reduced : (rows : List (Row K)) (before after : Noted K) → before ≡ noted
        → rows ≡ filter_map (entry_row over answer) entries → after.malformed ≡ before.malformed → after.outside ≡ before.outside
        → after.twice ≡ before.twice → after.over ≡ joined (lesser R) before.over (joined_by (lesser R) (over_key over) entries)
        → IsReduced R inside folded rows after es
    reduced rows before after unchanged all malformed outside twice over_too =
        let each = λ (k : K). found k ∙ stands.each k in
        record {
          all_rows = all ∙ rows_are entries sorted each;
          malformed = malformed ∙ ap (λ n. n.malformed) unchanged ∙ stands.faults.malformed;
          outside = outside ∙ ap (λ n. n.outside) unchanged ∙ stands.faults.outside;
          twice = twice ∙ ap (λ n. n.twice) unchanged ∙ stands.twice;
          over = over_too ∙ ap (λ x. joined (lesser R) x (joined_by (lesser R) (over_key over) entries))
              (ap (λ n. n.over) unchanged ∙ stands.faults.over) ∙ over_is entries sorted each;
        }

pub first_fault : {K V : Type 0} (R : K → K → Ordering) (inside : K → Bool) (folded : List V → Option Answer) (rows : List (Row K))
    (noted : Noted K) (es : List (Emission K V)) → IsReduced R inside folded rows noted es → first_of noted ≡ fault_of R inside folded es
first_fault R inside folded rows noted es h =
    λ i. first_of (record { malformed = h.malformed i; outside = h.outside i; twice = h.twice i; over = h.over i })
