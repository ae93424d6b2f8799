-- Cells by place.
use Rattle.std.proofs.Common.{◌≡◌, ◌≢◌, ℕ, zero, suc, ◌+◌, ◌<◌, ◌≤◌, ◌==◌, Bool, true, false, cond, List, [], ◌∷◌, ◌++◌, length, get_or}
use Rattle.std.proofs.Common.{set, map, filter, replicate, Option, Some, None, is_some, Result, Ok, Err, OnOk, inl, inr, refl, sym, ap}
use Rattle.std.proofs.Common.{subst, ◌∙◌, append_assoc, append-nil, arith}
use Rattle.std.specs.List.{IsDistinct, AllByRecursion, range_with_len}
use Rattle.std.proofs.lemmas.List.{get_or-replicate, get_or_past, get_or-set_same, get_or-set_other, length-replicate, length-set}
use Rattle.std.proofs.lemmas.List.{set-get_or, set-set}
use Rattle.std.proofs.lemmas.List.FromFn.{get_or-range_with_len}
use Rattle.std.proofs.lemmas.Bool.Decides.{eqb_tells}
use Rattle.std.proofs.lemmas.Bool.{cases_lt, lt-ltb, le-ltb}
use Rattle.std.specs.Ordering.{eq_by_cmp, nat_cmp}
use Rattle.std.specs.Cmp.{nat_cmp_total}
use Rattle.std.specs.FinMap.{find, nat_cmp-IsAntisymmetric}
use Rattle.mr_defs.specs.Emission.{Emission, Pair}
use Rattle.mr_defs.specs.Commutative.{IsCommutative, joined}
use Rattle.mr_defs.specs.Faulty.{Noted}
use Rattle.mr_defs.specs.Stands.{StandsFor}
use Rattle.mr_combine.specs.Runs.{added}
use Rattle.mr_container.specs.Block.{run_emissions}
use Rattle.mr_container.specs.Partition.{IsPartition}
use Rattle.mr_container.proofs.Emitted.{after_pair}
use Rattle.mr_container.proofs.Entries.{same_tied, tied_same, part_of_distinct}
use Rattle.mr_array.specs.Cells.{is_below, cell_under, filled, numbered}

-- numbers that tie, and numbers that do not
same_key : (x y : ℕ) → x ≡ y → eq_by_cmp nat_cmp x y ≡ true
same_key x y e = same_tied nat_cmp_total x y e

other_key : (x y : ℕ) → x ≢ y → eq_by_cmp nat_cmp x y ≡ false
other_key x y h = elim (eq_by_cmp nat_cmp x y) as (λ t. eq_by_cmp nat_cmp x y ≡ t → t ≡ false) [
  | true ↦ λ e. absurd (h (tied_same nat_cmp-IsAntisymmetric x y e))
  | false ↦ λ e. refl
] refl

pub below : (n k : ℕ) → k < n → is_below n k ≡ true
below n k h = lt-ltb k n h

pub not_below : (n k : ℕ) → n ≤ k → is_below n k ≡ false
not_below n k h = le-ltb k n h

-- places with no cell
pub none_filled : (C : Type 0) (n : ℕ) → filled (replicate {A = Option C} n None) ≡ 0
none_filled C zero = refl
none_filled C (suc n) = none_filled C n

module _ {C : Type 0} where
  pub none_there : (n q : ℕ) → cell_under (replicate {A = Option C} n None) q ≡ None
  none_there n q = elim (cases_lt q n) [
    | inl h ↦ get_or-replicate n q None None h
    | inr h ↦ get_or_past (replicate n None) q None (subst (λ l. l ≤ q) (sym (length-replicate n None)) h)
  ]

  -- a cell is put in at a place
  filled_set : (cells : List (Option C)) (i : ℕ) (c : C) → i < length cells
      → filled (set cells i (Some c)) ≡ cond (is_some (get_or cells i None)) (filled cells) (filled cells + 1)
  filled_set [] i c h = absurd (omega (arith, h))
  filled_set (None ∷ cells) zero c h = omega arith
  filled_set (Some x ∷ cells) zero c h = refl
  filled_set (None ∷ cells) (suc i) c h = filled_set cells i c (omega (arith, h))
  filled_set (Some x ∷ cells) (suc i) c h = ap suc (filled_set cells i c (omega (arith, h)))
      ∙ elim (is_some (get_or cells i None)) as (λ t. suc (cond t (filled cells) (filled cells + 1))
      ≡ cond t (suc (filled cells)) (suc (filled cells) + 1)) [ true ↦ refl | false ↦ omega arith ]

  cell_set : (cells : List (Option C)) (k : ℕ) (c : C) → k < length cells → (q : ℕ)
      → cell_under (set cells k (Some c)) q ≡ cond (eq_by_cmp nat_cmp q k) (Some c) (cell_under cells q)
  cell_set cells k c h q = elim (eqb_tells q k) [
    | inl same ↦ ap (λ n. get_or (set cells k (Some c)) n None) same.1 ∙ get_or-set_same cells k (Some c) None h
        ∙ sym (ap (λ t. cond t (Some c) (cell_under cells q)) (same_key q k same.1))
    | inr other ↦ get_or-set_other cells k q (Some c) None other.1
        ∙ sym (ap (λ t. cond t (Some c) (cell_under cells q)) (other_key q k other.1))
  ]

  -- a key is found at its place
  find_before : (cells : List (Option C)) (i q : ℕ) → q < i → find nat_cmp q (numbered i cells) ≡ None
  find_before [] i q h = refl
  find_before (None ∷ cells) i q h = find_before cells (i + 1) q (omega (arith, h))
  find_before (Some c ∷ cells) i q h = ap (λ t. cond t (Some c) (find nat_cmp q (numbered (i + 1) cells)))
      (other_key q i (λ e. absurd (omega (arith, h, e)))) ∙ find_before cells (i + 1) q (omega (arith, h))

  find_numbered : (cells : List (Option C)) (i j q : ℕ) → q ≡ i + j → find nat_cmp q (numbered i cells) ≡ get_or cells j None
  find_numbered [] i j q e = sym (get_or_past [] j None (omega arith))
  find_numbered (None ∷ cells) i zero q e = find_before cells (i + 1) q (omega (arith, e))
  find_numbered (None ∷ cells) i (suc j) q e = find_numbered cells (i + 1) j q (omega (arith, e))
  find_numbered (Some c ∷ cells) i zero q e =
      ap (λ t. cond t (Some c) (find nat_cmp q (numbered (i + 1) cells))) (same_key q i (omega (arith, e)))
  find_numbered (Some c ∷ cells) i (suc j) q e = ap (λ t. cond t (Some c) (find nat_cmp q (numbered (i + 1) cells)))
      (other_key q i (λ s. absurd (omega (arith, e, s)))) ∙ find_numbered cells (i + 1) j q (omega (arith, e))

  above : (cells : List (Option C)) (i x : ℕ) → x < i
      → AllByRecursion (λ y. eq_by_cmp nat_cmp x y ≡ false) (map (λ e. e.0) (numbered i cells))
  above [] i x h = tt
  above (None ∷ cells) i x h = above cells (i + 1) x (omega (arith, h))
  above (Some c ∷ cells) i x h = (other_key x i (λ e. absurd (omega (arith, h, e))), above cells (i + 1) x (omega (arith, h)))

  distinct : (cells : List (Option C)) (i : ℕ) → IsDistinct (eq_by_cmp nat_cmp) (map (λ e. e.0) (numbered i cells))
  unfolding IsDistinct
  distinct [] i = tt
  distinct (None ∷ cells) i = distinct cells (i + 1)
  distinct (Some c ∷ cells) i = (above cells (i + 1) i (omega arith), distinct cells (i + 1))

  pub part_of_cells : (part_of : ℕ → ℕ) (part : ℕ) (cells : List (Option C))
      → IsPartition nat_cmp (cell_under cells) part_of part (filter (λ e. part_of e.0 == part) (numbered 0 cells))
  part_of_cells part_of part cells =
      let whole = part_of_distinct nat_cmp nat_cmp-IsAntisymmetric part_of part (numbered 0 cells) (distinct cells 0) in
      record {
        distinct = whole.distinct;
        found = λ k. whole.found k ∙ ap (λ c. cond (part_of k == part) c None) (find_numbered cells 0 k k (omega arith));
      }

-- a pair of a key comes to its place
module _ {C V : Type 0} (inside : ℕ → Bool) (unit : V → C) {merged : C → C → C} (laws : IsCommutative merged) (cells : List (Option C))
    (noted : Noted ℕ) (k place : ℕ) (at : place ≡ k) (v : V) (within : place < length cells) (h : inside k ≡ true) where
  pub emitted : (new : C) → Some new ≡ joined merged (cell_under cells place) (Some (unit v)) → (es : List (Emission ℕ V))
      → StandsFor nat_cmp inside unit merged (cell_under cells) (filled cells) noted es
      → StandsFor nat_cmp inside unit merged (cell_under (set cells place (Some new))) (filled (set cells place (Some new))) noted
      (es ++ Pair k v ∷ [])
  emitted new is es was =
      after_pair nat_cmp_total nat_cmp-IsAntisymmetric inside unit laws (cell_under cells) (filled cells) noted es was
      (cell_under (set cells place (Some new))) (filled (set cells place (Some new))) k v h
      (λ q. cell_set cells place new within q ∙ ap (λ x. cond (eq_by_cmp nat_cmp q place) x (cell_under cells q)) is
      ∙ ap (λ n. cond (eq_by_cmp nat_cmp q n) (joined merged (cell_under cells n) (Some (unit v))) (cell_under cells q)) at)
      (filled_set cells place new within ∙ ap (λ n. cond (is_some (cell_under cells n)) (filled cells) (filled cells + 1)) at)

  pub emitted_ok : {A E : Type 0} → (old new : C) (r : Result A E) → cell_under cells place ≡ Some old → OnOk r (new ≡ merged old (unit v))
      → OnOk r ((es : List (Emission ℕ V)) → StandsFor nat_cmp inside unit merged (cell_under cells) (filled cells) noted es
      → StandsFor nat_cmp inside unit merged (cell_under (set cells place (Some new))) (filled (set cells place (Some new))) noted
      (es ++ Pair k v ∷ []))
  emitted_ok old new (Ok a) was is = emitted new (ap Some is ∙ ap (λ x. joined merged x (Some (unit v))) (sym was))
  emitted_ok old new (Err e) was is = tt

-- the pairs of a run come to their key's place
module _ {C V : Type 0} (inside : ℕ → Bool) (unit : V → C) {merged : C → C → C} (laws : IsCommutative merged) (noted : Noted ℕ)
    (k place : ℕ) (at : place ≡ k) (h : inside k ≡ true) where
  emitted_run : (vs : List V) (cells : List (Option C)) (old : C) → place < length cells → cell_under cells place ≡ Some old
      → (es : List (Emission ℕ V))
      → StandsFor nat_cmp inside unit merged (cell_under cells) (filled cells) noted es
      → let new = set cells place (Some (added unit merged old vs)) in
      StandsFor nat_cmp inside unit merged (cell_under new) (filled new) noted (es ++ run_emissions k vs)
  emitted_run [] cells old within was es stands =
      let same : set cells place (Some old) ≡ cells = ap (set cells place) (sym was) ∙ set-get_or cells place None in
      subst (λ cs. StandsFor nat_cmp inside unit merged (cell_under cs) (filled cs) noted (es ++ [])) (sym same)
      (subst (StandsFor nat_cmp inside unit merged (cell_under cells) (filled cells) noted) (sym (append-nil es)) stands)
  emitted_run (v ∷ vs) cells old within was es stands =
      let next = merged old (unit v) in
      let mid = set cells place (Some next) in
      let there : cell_under mid place ≡ Some next = get_or-set_same cells place (Some next) None within in
      let twice : set mid place (Some (added unit merged next vs)) ≡ set cells place (Some (added unit merged next vs)) =
      set-set cells place (Some next) (Some (added unit merged next vs)) in
      subst (λ cs. StandsFor nat_cmp inside unit merged (cell_under cs) (filled cs) noted (es ++ run_emissions k (v ∷ vs))) twice
      (subst (StandsFor nat_cmp inside unit merged (cell_under (set mid place (Some (added unit merged next vs))))
      (filled (set mid place (Some (added unit merged next vs)))) noted) (append_assoc es (Pair k v ∷ []) (run_emissions k vs))
      (emitted_run vs mid next (subst (λ l. place < l) (sym (length-set cells place (Some next))) within) there (es ++ Pair k v ∷ [])
      (emitted inside unit laws cells noted k place at v within h next (ap (λ c. joined merged c (Some (unit v))) (sym was)) es stands)))

  pub emitted_run_is : (vs : List V) (cells : List (Option C)) (old new : C) → place < length cells → cell_under cells place ≡ Some old
      → new ≡ added unit merged old vs → (es : List (Emission ℕ V))
      → StandsFor nat_cmp inside unit merged (cell_under cells) (filled cells) noted es
      → StandsFor nat_cmp inside unit merged (cell_under (set cells place (Some new))) (filled (set cells place (Some new))) noted
      (es ++ run_emissions k vs)
  emitted_run_is vs cells old new within was is es stands =
      subst (λ c. StandsFor nat_cmp inside unit merged (cell_under (set cells place (Some c))) (filled (set cells place (Some c))) noted
      (es ++ run_emissions k vs)) (sym is) (emitted_run vs cells old within was es stands)

-- the key that stands at a place
pub key_there : (keys : List ℕ) (n i x : ℕ) → keys ≡ range_with_len 0 n → i < n → x ≡ get_or keys i x → x ≡ i
key_there keys n i x named l is = is ∙ ap (λ ks. get_or ks i x) named ∙ get_or-range_with_len 0 n i x l ∙ omega arith
