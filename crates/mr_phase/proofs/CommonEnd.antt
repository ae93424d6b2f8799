-- What the workers leave at the common array, and the rows that its words end as, are what the phase gives.
use Rattle.std.proofs.Common.{◌≡◌, ℕ, ℤ, ◌<◌, nat_lt, All, Contains, List, [], ◌∷◌, ◌++◌, map, reverse, flat_map, length, slice_get}
use Rattle.std.proofs.Common.{slice_index_or, Some, None, Ok, Err, refl, sym, ap, ◌∙◌, subst, arith, IsPermutation}
use Rattle.std.specs.Prelude.{IfOk}
use Rattle.std.specs.declared.result.Result.{Result}
use Rattle.std.specs.List.{AllByRecursion, range_with_len}
use Rattle.std.specs.List.Sorted.{IsStrictlySortedBy}
use Rattle.std.specs.Ordering.{nat_cmp}
use Rattle.std.proofs.lemmas.List.{length-map, length-reverse, map-append, reverse-append}
use Rattle.std.proofs.lemmas.List.Elements.{All-from_recursion, All-map, recursion_from_All}
use Rattle.std.proofs.lemmas.List.Folds.{flat_map-map}
use Rattle.std.proofs.lemmas.List.Sorted.{All-permutation, IsPermutation-map, IsPermutation-reverse, IsPermutation-sym, IsPermutation-trans}
use Rattle.std.proofs.lemmas.Option.{slice_get-get_or}
use Rattle.std.proofs.lemmas.Simd.{map-map}
use Rattle.mr_base.specs.Noting.{noted_of}
use Rattle.mr_base.specs.Tasks.{IsApartBelow}
use Rattle.mr_common.specs.declared.common.CommonArray.{CommonArray}
use Rattle.mr_common.specs.declared.common.CommonPass.{CommonPass}
use Rattle.mr_common.specs.declared.common_local.CommonLocal.{CommonLocal}
use Rattle.mr_common.specs.Lawful.{keys}
use Rattle.mr_common.specs.Passes.{ArePassesOf, IsPassOf, row_of, won, refused}
use Rattle.mr_defs.specs.Emission.{Emission, Pair, Row}
use Rattle.mr_defs.specs.Faulty.{common_faults_of, twice_of}
use Rattle.mr_defs.specs.Folded.{once_folded}
use Rattle.mr_defs.specs.Keyed.{keys_inside}
use Rattle.mr_defs.specs.Rows.{cells_of, rows_of}
use Rattle.mr_defs.specs.Stands.{SharesFor}
use Rattle.mr_phase.specs.Common.{AreWon, IsLeft, hand_of}
use Rattle.mr_phase.specs.Spread.{noted_all}
use Rattle.mr_phase.specs.declared.common.CommonHand.{CommonHand}
use Rattle.mr_phase.specs.declared.common.Left.{Left}
use Rattle.mr_phase.specs.declared.hands.Hand.{Hand}
use Rattle.mr_phase.proofs.Everyone.{IsPermutation-flat_map, each_map, tasks_emitted}
use Rattle.mr_phase.proofs.Winning.{cells_are, faults_are, keys_are, rows_are}

map_reverse : {X Y : Type 0} (f : X → Y) (xs : List X) → map f (reverse xs) ≡ reverse (map f xs)
map_reverse f [] = refl
map_reverse f (x ∷ xs) =
    ap (map f) (reverse-append (x ∷ []) xs) ∙ map-append f (reverse xs) (x ∷ []) ∙ ap (λ l. l ++ f x ∷ []) (map_reverse f xs)
    ∙ sym (reverse-append (f x ∷ []) (map f xs))

abbrev pass_of : Hand CommonLocal → CommonPass
pass_of h = h.local.pass

module _ (array : CommonArray) (count tasks : ℕ) (emits : ℕ → List (Emission ℕ ℤ)) (left : Left)
    (l : IsLeft array count tasks emits left) where
  abbrev Shares : CommonArray → Hand CommonLocal → Type 0
  Shares a h = SharesFor nat_cmp (λ k. nat_lt k a.size) (won h.local.pass) (refused h.local.pass) h.local.cells (noted_of h.local.faults)
      (flat_map emits h.tasks.items)

  abbrev Of : CommonArray → Hand CommonLocal → Type 0
  Of a h = IsPassOf a.table.shared.table_id a.size h.local.pass

  of_array : All (Of array) l.workers
  of_array i d lt = let h = slice_index_or l.workers i d in subst (λ a. Of a h) (l.over i d lt) h.local.of

  shares : All (Shares array) l.workers
  shares i d lt = let h = slice_index_or l.workers i d in subst (λ a. Shares a h) (l.over i d lt) (l.shares i d lt)

  pub passes_of : ArePassesOf array.table.shared.table_id array.size left.passes.items
  passes_of = subst (ArePassesOf array.table.shared.table_id array.size) (sym l.passes)
      (All-map (IsPassOf array.table.shared.table_id array.size) pass_of l.workers of_array)

  pub passes_count : length left.passes.items ≡ count
  passes_count = ap length l.passes ∙ length-map l.workers pass_of ∙ l.count_is

  below : AllByRecursion (λ h. IsApartBelow array.size (keys (won h.local.pass))) l.workers
  below = each_map (Of array) (λ h. IsApartBelow array.size (keys (won h.local.pass))) (λ h of. of.3) l.workers
      (recursion_from_All (Of array) l.workers of_array)

  all_won : flat_map won left.passes.items ≡ flat_map (λ h. won h.local.pass) l.workers
  all_won = ap (flat_map won) l.passes ∙ flat_map-map won pass_of l.workers

  all_refused : flat_map refused left.passes.items ≡ flat_map (λ h. refused h.local.pass) l.workers
  all_refused = ap (flat_map refused) l.passes ∙ flat_map-map refused pass_of l.workers

  module _ (hands : List CommonHand) (turned : hands ≡ reverse left.hands.items) where
    hands_are : hands ≡ reverse (map hand_of l.workers)
    hands_are = turned ∙ ap reverse l.hands

    pub hands_count : length hands ≡ count
    hands_count = ap length hands_are ∙ length-reverse (map hand_of l.workers) ∙ length-map l.workers hand_of ∙ l.count_is

    pub hands_once : IsPermutation (range_with_len 0 tasks) (flat_map (λ h. h.tasks.items) hands)
    hands_once =
        subst (λ hs. IsPermutation (range_with_len 0 tasks) (flat_map (λ h. h.tasks.items) hs)) (sym hands_are)
        (IsPermutation-trans (range_with_len 0 tasks) (flat_map (λ (h : CommonHand). h.tasks.items) (map hand_of l.workers))
        (flat_map (λ (h : CommonHand). h.tasks.items) (reverse (map hand_of l.workers)))
        (subst (IsPermutation (range_with_len 0 tasks)) (sym (flat_map-map (λ (h : CommonHand). h.tasks.items) hand_of l.workers)) l.once)
        (IsPermutation-flat_map (λ (h : CommonHand). h.tasks.items) (map hand_of l.workers) (reverse (map hand_of l.workers))
        (IsPermutation-reverse (map hand_of l.workers))))

    -- what holds of each worker's hand
    each_hand : (P : CommonHand → Type 0) → All (λ h. P (hand_of h)) l.workers → All P hands
    each_hand P all =
        subst (All P) (sym hands_are)
        (All-permutation P (map hand_of l.workers) (reverse (map hand_of l.workers)) (IsPermutation-reverse (map hand_of l.workers))
        (All-map P hand_of l.workers all))

    module _ (rows : List (Row ℕ)) (ascends : IsStrictlySortedBy nat_cmp (map (λ row. row.0) rows))
        (are : IsPermutation (map row_of (flat_map won left.passes.items)) rows)
        (taken : All (Contains (keys (flat_map won left.passes.items))) (flat_map refused left.passes.items)) where
      abbrev es : List (Emission ℕ ℤ)
      es = flat_map emits (range_with_len 0 tasks)

      rows_won : IsPermutation (map row_of (flat_map (λ h. won h.local.pass) l.workers)) rows
      rows_won = subst (λ w. IsPermutation (map row_of w) rows) all_won are

      refused_won : All (Contains (keys (flat_map (λ h. won h.local.pass) l.workers))) (flat_map (λ h. refused h.local.pass) l.workers)
      refused_won = subst (λ w. All (Contains (keys w)) (flat_map (λ h. refused h.local.pass) l.workers)) all_won
          (subst (All (Contains (keys (flat_map won left.passes.items)))) all_refused taken)

      same : IsPermutation (flat_map (λ h. flat_map emits h.tasks.items) l.workers) es
      same = tasks_emitted emits (λ (h : Hand CommonLocal). h.tasks.items) l.workers (range_with_len 0 tasks) l.once

      pub done_faults : noted_of left.faults ≡ common_faults_of nat_cmp (λ k. nat_lt k array.size) es
      done_faults = l.faults ∙ faults_are array.size (λ h. won h.local.pass) (λ h. refused h.local.pass) (λ h. h.local.cells)
          (λ h. noted_of h.local.faults) (λ h. flat_map emits h.tasks.items) l.workers
          (recursion_from_All (Shares array) l.workers shares) below rows ascends rows_won refused_won es same

      pub done_keys : map (λ row. row.0) rows ≡ keys_inside nat_cmp (λ k. nat_lt k array.size) es
      done_keys = keys_are array.size (λ h. won h.local.pass) (λ h. refused h.local.pass) (λ h. h.local.cells)
          (λ h. noted_of h.local.faults) (λ h. flat_map emits h.tasks.items) l.workers
          (recursion_from_All (Shares array) l.workers shares) below rows ascends rows_won refused_won es same

      abbrev pair : Hand CommonLocal → CommonHand × List (ℕ × ℤ)
      pair h = (hand_of h, won h.local.pass)

      abbrev Wins : CommonHand × List (ℕ × ℤ) → Type 0
      Wins w = (w.0.cells ≡ length w.1) × All (λ p. Contains (flat_map emits w.0.tasks.items) (Pair p.0 p.1)) w.1

      pub done_won : AreWon emits rows hands
      done_won = record {
        wins = reverse (map pair l.workers);
        hands_are = hands_are ∙ ap reverse (sym (map-map (λ (w : CommonHand × List (ℕ × ℤ)). w.0) pair l.workers))
            ∙ sym (map_reverse (λ (w : CommonHand × List (ℕ × ℤ)). w.0) (map pair l.workers));
        each = All-permutation Wins (map pair l.workers) (reverse (map pair l.workers)) (IsPermutation-reverse (map pair l.workers))
            (All-map Wins pair l.workers (λ i d lt. let s = shares i d lt in (s.count, s.pairs)));
        all = IsPermutation-trans _ (map row_of (flat_map (λ (w : CommonHand × List (ℕ × ℤ)). w.1) (map pair l.workers))) rows
            (IsPermutation-map row_of
            _ _ (IsPermutation-flat_map (λ (w : CommonHand × List (ℕ × ℤ)). w.1) (reverse (map pair l.workers)) (map pair l.workers)
            (IsPermutation-sym (map pair l.workers) (reverse (map pair l.workers)) (IsPermutation-reverse (map pair l.workers)))))
            (subst (λ w. IsPermutation (map row_of w) rows)
            (sym (flat_map-map (λ (w : CommonHand × List (ℕ × ℤ)). w.1) pair l.workers)) rows_won);
      }

      module _ (none : left.faults.twice ≡ None) where
        none_twice : twice_of nat_cmp (λ k. nat_lt k array.size) es ≡ None
        none_twice = sym (ap (λ n. n.twice) done_faults) ∙ none

        pub done_rows : rows ≡ rows_of nat_cmp (λ k. nat_lt k array.size) once_folded es
        done_rows = rows_are array.size (λ h. won h.local.pass) (λ h. refused h.local.pass) (λ h. h.local.cells)
            (λ h. noted_of h.local.faults) (λ h. flat_map emits h.tasks.items) l.workers
            (recursion_from_All (Shares array) l.workers shares) below rows ascends rows_won refused_won es same none_twice

        pub done_cells : All (λ h. h.cells ≡ cells_of nat_cmp (λ k. nat_lt k array.size) (flat_map emits h.tasks.items)) hands
        done_cells = each_hand (λ h. h.cells ≡ cells_of nat_cmp (λ k. nat_lt k array.size) (flat_map emits h.tasks.items))
            (All-from_recursion (λ h. h.local.cells ≡ cells_of nat_cmp (λ k. nat_lt k array.size) (flat_map emits h.tasks.items)) l.workers
            (cells_are array.size (λ h. won h.local.pass) (λ h. refused h.local.pass) (λ h. h.local.cells) (λ h. noted_of h.local.faults)
            (λ h. flat_map emits h.tasks.items) l.workers
            (recursion_from_All (Shares array) l.workers shares) below rows ascends rows_won refused_won es same none_twice))

-- the locals that were given out are over the array, and so are the hands' that came back
pub over_each : (array : CommonArray) (locals : List CommonLocal) (hands : List (Hand CommonLocal)) → length hands ≡ length locals
    → All (λ s. s.array.now ≡ array) locals
    → ((i : ℕ) (s : CommonLocal) (h : Hand CommonLocal) → slice_get locals i ≡ Some s → slice_get hands i ≡ Some h
    → (h.local.array.now ≡ s.array.now) × (h.local.pass.seat.id ≡ s.pass.seat.id))
    → All (λ h. h.local.array.now ≡ array) hands
over_each array locals hands long over origin i d lt =
    let here : i < length locals = omega (arith, lt, long) in
    (origin i (slice_index_or locals i d.local) (slice_index_or hands i d) (slice_get-get_or locals i d.local here)
    (slice_get-get_or hands i d lt)).0 ∙ over i d.local here

-- what hands that were taken apart leave
pub left_by : {E : Type 0} (array : CommonArray) (count tasks : ℕ) (emits : ℕ → List (Emission ℕ ℤ)) (hands : List (Hand CommonLocal))
    (result : Result Left E)
    → length hands ≡ count → IsPermutation (range_with_len 0 tasks) (flat_map (λ h. h.tasks.items) hands)
    → All (λ h. h.local.array.now ≡ array) hands
    → All (λ h. SharesFor nat_cmp (λ k. nat_lt k h.local.array.now.size) (won h.local.pass) (refused h.local.pass) h.local.cells
    (noted_of h.local.faults) (flat_map emits h.tasks.items)) hands
    → IfOk result (λ left. left.hands.items ≡ map hand_of (reverse hands))
    → IfOk result (λ left. left.passes.items ≡ map (λ h. h.local.pass) (reverse hands))
    → IfOk result (λ left. noted_of left.faults ≡ noted_all nat_cmp (λ h. noted_of h.local.faults) (reverse hands))
    → IfOk result (IsLeft array count tasks emits)
left_by array count tasks emits hands (Ok left) long once over shared told passes faults = record {
  workers = reverse hands;
  count_is = length-reverse hands ∙ long;
  once = IsPermutation-trans (range_with_len 0 tasks) (flat_map (λ (h : Hand CommonLocal). h.tasks.items) hands)
      (flat_map (λ (h : Hand CommonLocal). h.tasks.items) (reverse hands)) once
      (IsPermutation-flat_map (λ (h : Hand CommonLocal). h.tasks.items) hands (reverse hands) (IsPermutation-reverse hands));
  over = All-permutation (λ h. h.local.array.now ≡ array) hands (reverse hands) (IsPermutation-reverse hands) over;
  shares = All-permutation
      (λ h. SharesFor nat_cmp (λ k. nat_lt k h.local.array.now.size) (won h.local.pass) (refused h.local.pass) h.local.cells
      (noted_of h.local.faults) (flat_map emits h.tasks.items)) hands (reverse hands)
      (IsPermutation-reverse hands) shared;
  hands = told;
  passes = passes;
  faults = faults;
}
left_by array count tasks emits hands (Err e) long once over shared told passes faults = tt
