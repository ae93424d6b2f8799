-- Entries of a part, hand by hand, and what sorting and folding them leaves.
use Rattle.std.proofs.Common.{◌≡◌, ℕ, suc, ◌+◌, ◌<◌, ◌==◌, Bool, true, false, cond, if◌then◌else◌, T, List, [], ◌∷◌, ◌++◌, length, get_or}
use Rattle.std.proofs.Common.{take, map, Option, Some, None, refl, sym, ap, subst, ◌∙◌, arith, IsPermutation, append_assoc, append-nil, Bor}
use Rattle.std.specs.List.{IsDistinct, AllByRecursion}
use Rattle.std.specs.List.Sorted.{IsSortedByKey, IsStrictlySortedBy}
use Rattle.std.specs.declared.cmp.Ordering.{Ordering}
use Rattle.std.specs.Ordering.{eq_by_cmp, is_lt, is_eq}
use Rattle.std.specs.Cmp.{IsTotalOrder}
use Rattle.std.specs.FinMap.{IsAntisymmetric, find, is_sorted}
use Rattle.std.specs.FinMap.Entries.{below_all}
use Rattle.std.proofs.lemmas.List.{take_more, length-map, get_or-map}
use Rattle.std.proofs.lemmas.List.Sorted.{sorted_far, ranks_by, IsPermutation-map}
use Rattle.std.proofs.lemmas.Map.Keys.{IsDistinct-head, IsDistinct-tail}
use Rattle.mr_defs.specs.Commutative.{IsCommutative, joined, joined_by}
use Rattle.mr_defs.specs.CommutativeLaws.{joined_by-append, joined_by-push, joined_by-IsPermutation}
use Rattle.mr_defs.specs.Emission.{Answer}
use Rattle.mr_container.specs.Partition.{IsPartition}
use Rattle.mr_container.proofs.Orders.{is_Equal, is_Less, both_first, both_second}
use Rattle.mr_container.specs.Entries.{cell_in, seen_of}
use Rattle.mr_phase.specs.Folded.{fold_equal}
use Rattle.mr_phase.specs.Partition.{AreFolded, HasPartition, IsReducedAt}
use Rattle.mr_phase.specs.declared.partition.Partition.{Partition}
use Rattle.mr_phase.proofs.Final.{rows_ascend}
use Rattle.mr_phase.proofs.Folding.{AreFrom, Rises, folded_sorted, folded_same}

module _ {K C : Type 0} (R : K → K → Ordering) (one : IsAntisymmetric R) (op : C → C → C) (q : K) where
  absent : (es : List (K × C)) → AllByRecursion (λ y. eq_by_cmp R q y ≡ false) (map (λ e. e.0) es) → find R q es ≡ None
  absent [] differ = refl
  absent (e ∷ es) differ = ap (λ t. cond t (Some e.1) (find R q es)) differ.0 ∙ absent es differ.1

  -- one entry of a key beside entries without it
  single : (e : K × C) (es : List (K × C)) → (eq_by_cmp R q e.0 ≡ true → find R q es ≡ None)
      → joined op (cell_in R q e) (find R q es) ≡ find R q (e ∷ es)
  single e es none = elim (eq_by_cmp R q e.0) as (λ t. eq_by_cmp R q e.0 ≡ t
      → joined op (if t then Some e.1 else None) (find R q es) ≡ cond t (Some e.1) (find R q es)) [
        | true ↦ λ h. ap (joined op (Some e.1)) (none h)
        | false ↦ λ h. refl
      ] refl

  -- where each key stands once, the cell of a key is that of all entries joined
  pub joined_cells : (es : List (K × C)) → IsDistinct (eq_by_cmp R) (map (λ e. e.0) es) → joined_by op (cell_in R q) es ≡ find R q es
  joined_cells [] differ = refl
  joined_cells (e ∷ es) differ =
      ap (joined op (cell_in R q e)) (joined_cells es (IsDistinct-tail _ _ _ differ))
      ∙ single e es (λ h. absent es
      (subst (λ x. AllByRecursion (λ y. eq_by_cmp R x y ≡ false) (map (λ e. e.0) es)) (sym (one q e.0 (is_Equal (R q e.0) h)))
      (IsDistinct-head _ _ _ differ)))

  not_tied : (x : K) → T (is_lt (R q x)) → eq_by_cmp R q x ≡ false
  not_tied x h = ap is_eq (is_Less (R q x) h)

  pub absent_below : (es : List (K × C)) → T (below_all R q es) → find R q es ≡ None
  absent_below [] h = refl
  absent_below (e ∷ es) h =
      ap (λ t. cond t (Some e.1) (find R q es)) (not_tied e.0 (both_first _ _ h)) ∙ absent_below es (both_second _ _ h)

  pub joined_sorted : (es : List (K × C)) → T (is_sorted R es) → joined_by op (cell_in R q) es ≡ find R q es
  joined_sorted [] h = refl
  joined_sorted (e ∷ es) h =
      ap (joined op (cell_in R q e)) (joined_sorted es (both_second _ _ h))
      ∙ single e es (λ t. absent_below es (subst (λ x. T (below_all R x es)) (sym (one q e.0 (is_Equal (R q e.0) t))) (both_first _ _ h)))

module _ {K C X : Type 0} (R : K → K → Ordering) (merged : C → C → C) (cell : X → K → Option C) (part_of : K → ℕ) (part : ℕ) where
  -- the cells of a key in the part, over these hands
  abbrev pub Gathered : List X → List (K × C) → Type 0
  Gathered xs entries =
      (k : K) → joined_by merged (cell_in R k) entries ≡ (if part_of k == part then joined_by merged (λ h. cell h k) xs else None)

module _ {K C X : Type 0} (R : K → K → Ordering) (one : IsAntisymmetric R) {merged : C → C → C} (laws : IsCommutative merged)
    (cell : X → K → Option C) (part_of : K → ℕ) (part : ℕ) where
  with_one : (b : Bool) (x y : Option C)
      → joined merged (if b then x else None) (if b then y else None) ≡ (if b then joined merged x y else None)
  with_one true x y = refl
  with_one false x y = refl

  pub gathered_more : (xs : List X) (i : ℕ) (x : X) (before after : List (K × C)) → i < length xs → x ≡ get_or xs i x
      → HasPartition R (cell x) part_of part before after → Gathered R merged cell part_of part (take i xs) before
      → Gathered R merged cell part_of part (take (i + 1) xs) after
  gathered_more xs i x before after h is p so_far k =
      ap (joined_by merged (cell_in R k)) p.all
      ∙ joined_by-append laws (cell_in R k) before p.more
      ∙ ap (λ c. joined merged c (joined_by merged (cell_in R k) p.more)) (so_far k)
      ∙ ap (joined merged (if part_of k == part then joined_by merged (λ h. cell h k) (take i xs) else None))
      (joined_cells R one merged k p.more p.is_partition.distinct ∙ p.is_partition.found k)
      ∙ with_one (part_of k == part) (joined_by merged (λ h. cell h k) (take i xs)) (cell x k)
      ∙ ap (λ c. if part_of k == part then c else None)
      (sym (joined_by-push laws (λ h. cell h k) (take i xs) x)
      ∙ ap (joined_by merged (λ h. cell h k)) (sym (take_more xs i x h ∙ ap (λ y. take i xs ++ y ∷ []) (sym is))))

module _ {K C : Type 0} {R : K → K → Ordering} (o : IsTotalOrder R) where
  from_each : (x : K) (es : List (K × C)) → ((j : ℕ) (d : K × C) → j < length es → is_lt (R (get_or es j d).0 x) ≡ false) → AreFrom R x es
  from_each x [] rise = tt
  from_each x (e ∷ es) rise = (rise 0 e (omega arith), from_each x es (λ j d h. rise (suc j) d (omega (arith, h))))

  rises_each : (es : List (K × C))
      → ((i j : ℕ) (d : K × C) → i < j → j < length es → is_lt (R (get_or es j d).0 (get_or es i d).0) ≡ false) → Rises R es
  rises_each [] rise = tt
  rises_each (e ∷ es) rise = (
    from_each e.0 es (λ j d h. rise 0 (suc j) d (omega arith) (omega (arith, h))),
    rises_each es (λ i j d p h. rise (suc i) (suc j) d (omega (arith, p)) (omega (arith, h))),
  )

  -- what a sort leaves
  rises : (es : List (K × C)) → IsSortedByKey (λ e. e.0) R es → Rises R es
  rises es up = rises_each es (λ i j d p h. sorted_far (λ x y. is_lt (R x.0 y.0)) (ranks_by o (λ e. e.0)) es up i j d (omega (arith, p)) h)

  -- entries that are sorted by the keys that they refer to
  seen_sorted : (es : List (Bor K × Bor C)) → IsSortedByKey (λ e. e.0.now) R es → IsSortedByKey (λ e. e.0) R (seen_of es)
  seen_sorted [] up k d low lt = absurd (omega (arith, lt))
  seen_sorted (e ∷ es) up k d low lt =
      let value : Bor K × Bor C → K × C = λ x. (x.0.now, x.1.now) in
      let long = length-map (e ∷ es) value in
      let here : (i : ℕ) → i < length (e ∷ es)
      → get_or (seen_of (e ∷ es)) i d ≡ ((get_or (e ∷ es) i e).0.now, (get_or (e ∷ es) i e).1.now) =
      λ i h. get_or-map value (e ∷ es) i e d h in
      ap (λ x. is_lt (R x (get_or (seen_of (e ∷ es)) k d).0)) (ap (λ y. y.0) (here (k + 1) (omega (arith, lt, long))))
      ∙ ap (λ x. is_lt (R (get_or (e ∷ es) (k + 1) e).0.now x)) (ap (λ y. y.0) (here k (omega (arith, lt, long))))
      ∙ up k e low (omega (arith, lt, long))

module _ {K C X : Type 0} {R : K → K → Ordering} (o : IsTotalOrder R) (one : IsAntisymmetric R) {merged : C → C → C}
    (laws : IsCommutative merged) (cell : X → K → Option C) (part_of : K → ℕ) (part : ℕ) where
  -- the entries that were gathered, sorted and folded
  folded_found : (xs : List X) (gathered sorted : List (Bor K × Bor C)) → Gathered R merged cell part_of part xs (seen_of gathered)
      → IsPermutation gathered sorted → IsSortedByKey (λ e. e.0.now) R sorted
      → T (is_sorted R (fold_equal R merged (seen_of sorted)))
      × ((k : K)
      → find R k (fold_equal R merged (seen_of sorted)) ≡ (if part_of k == part then joined_by merged (λ h. cell h k) xs else None))
  folded_found xs gathered sorted all same up =
      let ascend : T (is_sorted R (fold_equal R merged (seen_of sorted))) =
      folded_sorted o one laws (seen_of sorted) (rises o (seen_of sorted) (seen_sorted o sorted up)) in (
        ascend,
        λ k.
            sym (joined_sorted R one merged k (fold_equal R merged (seen_of sorted)) ascend)
            ∙ folded_same o one laws k (seen_of sorted)
            ∙ joined_by-IsPermutation laws (cell_in R k) (seen_of gathered) (seen_of sorted)
            (let value : Bor K × Bor C → K × C = λ x. (x.0.now, x.1.now) in IsPermutation-map value gathered sorted same)
            ∙ all k,
      )

  -- a partition of the entries that were gathered, sorted, folded and reduced
  pub reduced_at : (over : C → Bool) (answer : C → Answer) (xs : List X) (gathered : List (Bor K × Bor C)) (p : Partition K)
      → Gathered R merged cell part_of part xs (seen_of gathered) → AreFolded R merged over answer gathered p
      → IsReducedAt R (λ k. joined_by merged (λ h. cell h k) xs) part_of over answer part p
  reduced_at over answer xs gathered p all folds =
      let found = folded_found xs gathered folds.sorted all folds.in_order.same folds.in_order.rises in (
        subst (λ rows. IsStrictlySortedBy R (map (λ r. r.0) rows)) (sym folds.rows_are)
            (rows_ascend R over answer (fold_equal R merged (seen_of folds.sorted)) found.0),
        record {
          entries = fold_equal R merged (seen_of folds.sorted);
          sorted = found.0;
          found = found.1;
          rows_are = folds.rows_are;
          over_is = folds.over_is;
        },
      )

-- of a list that gains a partition, how far the cursor is: what was read, and what is ahead
pub record Reading {K C : Type 0} (R : K → K → Ordering) (cell : K → Option C) (part_of : K → ℕ) (part : ℕ)
    (before now left : List (K × C)) : Type 0 where
  pub read : List (K × C)
  pub now_is : now ≡ before ++ read
  pub all : IsPartition R cell part_of part (read ++ left)

module _ {K C : Type 0} (R : K → K → Ordering) (cell : K → Option C) (part_of : K → ℕ) (part : ℕ) (before now : List (K × C)) where
  pub reads_on : (now' left left' : List (K × C)) (e : K × C) → left ≡ e ∷ left' → now' ≡ now ++ e ∷ []
      → Reading R cell part_of part before now left → Reading R cell part_of part before now' left'
  reads_on now' left left' e ahead put r = record {
    read = r.read ++ e ∷ [];
    now_is = put ∙ ap (λ l. l ++ e ∷ []) r.now_is ∙ append_assoc before r.read (e ∷ []);
    all = subst (IsPartition R cell part_of part) (ap (λ l. r.read ++ l) ahead ∙ sym (append_assoc r.read (e ∷ []) left')) r.all;
  }

  pub reads_end : (left : List (K × C)) → left ≡ [] → Reading R cell part_of part before now left
      → HasPartition R cell part_of part before now
  reads_end left none r = record {
    more = r.read;
    is_partition = subst (IsPartition R cell part_of part) (ap (λ l. r.read ++ l) none ∙ append-nil r.read) r.all;
    all = r.now_is;
  }
