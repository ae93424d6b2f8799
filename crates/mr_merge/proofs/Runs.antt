-- What is left of lists, row after row.
use Rattle.std.proofs.Common.{◌≡◌, ◌≢◌, ◌⊎◌, inl, inr, ⊎_elim, ℕ, zero, suc, ◌+◌, ◌<◌, ◌≤◌, Bool, true, false, List, [], ◌∷◌, ◌++◌, length}
use Rattle.std.proofs.Common.{flat_map, get_or, set, take, drop, refl, sym, ap, subst, ◌∙◌, arith}
use Rattle.std.specs.Cmp.{IsStrictWeakOrder}
use Rattle.std.specs.List.{AllByRecursion, AllWithin, insert}
use Rattle.std.specs.Borrow.{Bor}
use Rattle.std.proofs.lemmas.List.{get_or-set_same, get_or-set_other, length-take, take_more, get_or_append_left, get_or_push}
use Rattle.std.proofs.lemmas.List.{length-append}
use Rattle.std.proofs.lemmas.List.Edits.{length-insert}
use Rattle.mr_defs.specs.Partitions.{concatenated}
use Rattle.mr_merge.specs.Rising.{AreAbove, Rises, begins_lower}
use Rattle.mr_merge.specs.Plans.{IsLeast, IsPlan}
use Rattle.mr_merge.specs.Runs.{IsOne, AreApart, AreRuns}
use Rattle.mr_merge.proofs.Order.{irreflexive, above_all, inserted, begins_order}
use Rattle.mr_merge.proofs.Plans.{above_both, within, Leads, leads_on, led}

all_insert : {T : Type 0} (P : T → Type 0) (l : List T) (i : ℕ) (x : T) → AllByRecursion P l → P x → AllByRecursion P (insert l i x)
all_insert P l zero x h p = (p, h)
all_insert P [] (suc i) x h p = (p, h)
all_insert P (y ∷ l) (suc i) x h p = (h.0, all_insert P l i x h.1 p)

module _ {X : Type 0} where
  apart_insert : (l : List (ℕ × Bor (List X))) (i : ℕ) (x : ℕ × Bor (List X)) → AllByRecursion (λ s. s.0 ≢ x.0) l → AreApart l → AreApart
      (insert l i x)
  apart_insert l zero x h a = (h, a)
  apart_insert [] (suc i) x h a = (tt, tt)
  apart_insert (y ∷ l) (suc i) x h a = (all_insert (λ s. s.0 ≢ y.0) l i x a.0 (λ e. h.0 (sym e)), apart_insert l i x h.1 a.1)

  one_insert : (j : ℕ) (l : List (ℕ × Bor (List X))) (i : ℕ) (x : ℕ × Bor (List X)) → IsOne j l → IsOne j (insert l i x)
  one_insert j l zero x h = inr h
  one_insert j [] (suc i) x h = absurd h
  one_insert j (y ∷ l) (suc i) x h = ⊎_elim (λ e. inl e) (λ k. inr (one_insert j l i x k)) h

  one_put : (l : List (ℕ × Bor (List X))) (i : ℕ) (x : ℕ × Bor (List X)) → IsOne x.0 (insert l i x)
  one_put l zero x = inl refl
  one_put [] (suc i) x = inl refl
  one_put (y ∷ l) (suc i) x = inr (one_put l i x)

  -- lists of which one loses its first row, at the others
  held_set : (lists : List (List X)) (n : ℕ) (rest : List X) (runs : List (ℕ × Bor (List X))) → AllByRecursion (λ s. s.0 ≢ n) runs
      → AllByRecursion (λ r. get_or lists r.0 [] ≡ r.1.now) runs → AllByRecursion (λ r. get_or (set lists n rest) r.0 [] ≡ r.1.now) runs
  held_set lists n rest [] a h = tt
  held_set lists n rest (r ∷ runs) a h = (get_or-set_other lists n r.0 rest [] a.0 ∙ h.0, held_set lists n rest runs a.1 h.1)

  -- lists to which one is added
  held_push : (lists : List (List X)) (l : List X) (runs : List (ℕ × Bor (List X))) → AllByRecursion (λ r. r.0 < length lists) runs
      → AllByRecursion (λ r. get_or lists r.0 [] ≡ r.1.now) runs → AllByRecursion (λ r. get_or (lists ++ l ∷ []) r.0 [] ≡ r.1.now) runs
  held_push lists l [] b h = tt
  held_push lists l (r ∷ runs) b h = (get_or_append_left lists (l ∷ []) [] r.0 b.0 ∙ h.0, held_push lists l runs b.1 h.1)

  at_push : (lists : List (List X)) (l : List X) (j : ℕ) → (j ≡ length lists) ⊎ (get_or (lists ++ l ∷ []) j [] ≡ get_or lists j [])
  at_push [] l zero = inl refl
  at_push [] l (suc j) = inr refl
  at_push (k ∷ lists) l zero = inr refl
  at_push (k ∷ lists) l (suc j) = ⊎_elim (λ e. inl (ap suc e)) (λ e. inr e) (at_push lists l j)

  below_other : (n : ℕ) (runs : List (ℕ × Bor (List X))) → AllByRecursion (λ r. r.0 < n) runs → AllByRecursion (λ s. s.0 ≢ n) runs
  below_other n [] b = tt
  below_other n (r ∷ runs) b = (λ e. let h = b.0 in absurd (omega (arith, h, e)), below_other n runs b.1)

  below_more : (n : ℕ) (runs : List (ℕ × Bor (List X))) → AllByRecursion (λ r. r.0 < n) runs → AllByRecursion (λ r. r.0 < n + 1) runs
  below_more n [] b = tt
  below_more n (r ∷ runs) b = (let h = b.0 in omega (arith, h), below_more n runs b.1)

  none_left : (lists : List (List X)) → ((j : ℕ) → get_or lists j [] ≡ []) → concatenated lists ≡ []
  none_left [] h = refl
  none_left (l ∷ lists) h = ap (λ k. k ++ concatenated lists) (h 0) ∙ none_left lists (λ j. h (suc j))

module _ {X : Type 0} (lt : X → X → Bool) where
  -- the runs of so many lists
  pub record Numbered (lists : List (List X)) (n : ℕ) (runs : List (ℕ × Bor (List X))) : Type 0 where
    pub are : AreRuns lt (take n lists) runs
    pub below : AllByRecursion (λ r. r.0 < n) runs

  -- what is planned leads from the lists to others, of which these are the runs
  pub record Planning (lists : List (List X)) (plan : List ℕ) (runs : List (ℕ × Bor (List X))) : Type 0 where
    pub rest : List (List X)
    pub leads : Leads lt lists plan rest
    pub are : AreRuns lt rest runs

module _ {X : Type 0} {lt : X → X → Bool} (o : IsStrictWeakOrder lt) where
  above_lists : (x : X) (lists : List (List X)) → ((j : ℕ) → AreAbove lt x (get_or lists j [])) → AreAbove lt x (concatenated lists)
  above_lists x [] h = tt
  above_lists x (l ∷ lists) h = above_both lt x l (concatenated lists) (h 0) (above_lists x lists (λ j. h (suc j)))

  above_one : (x : X) (lists : List (List X)) (runs : List (ℕ × Bor (List X))) (j : ℕ) → AllByRecursion
      (λ r. get_or lists r.0 [] ≡ r.1.now) runs → AllByRecursion (λ r. AreAbove lt x r.1.now) runs → IsOne j runs → AreAbove lt x
      (get_or lists j [])
  above_one x lists [] j h a m = absurd m
  above_one x lists (r ∷ runs) j h a m = ⊎_elim (λ e. subst (λ k. AreAbove lt x (get_or lists k [])) e
      (subst (AreAbove lt x) (sym h.0) a.0)) (λ k. above_one x lists runs j h.1 a.1 k) m

  above_others : (x : X) (xs : List X) (runs : List (ℕ × Bor (List X))) → AllByRecursion
      (λ s. begins_lower lt s.1.now (x ∷ xs) ≡ false) runs → AllByRecursion (λ r. Rises lt r.1.now) runs → AllByRecursion
      (λ r. AreAbove lt x r.1.now) runs
  above_others x xs [] h r = tt
  above_others x xs (s ∷ runs) h r = (above_all o x xs s.1.now h.0 r.0, above_others x xs runs h.1 r.1)

  -- the first of the runs, which stand in order
  module _ (lists : List (List X)) (first : ℕ × Bor (List X)) (runs : List (ℕ × Bor (List X)))
      (are : AreRuns lt lists (first ∷ runs)) where
    module _ (x : X) (rest : Bor (List X)) (is : first.1.now ≡ x ∷ rest.now) where
      begins : get_or lists first.0 [] ≡ x ∷ rest.now
      begins = are.held.0 ∙ is

      row_is_least : IsLeast lt (concatenated lists) (get_or lists first.0 [])
      row_is_least =
          let own : AreAbove lt x first.1.now = subst (AreAbove lt x) (sym is) (irreflexive o x, (subst (Rises lt) is are.rise.0).0) in
          let behind = above_others x rest.now runs (subst (λ l. AllByRecursion
          (λ s. begins_lower lt s.1.now l ≡ false) runs) is are.order.0) are.rise.1 in
          subst (IsLeast lt (concatenated lists)) (sym begins)
          (above_lists x lists (λ j. ⊎_elim (λ e. subst (AreAbove lt x) (sym e) tt)
          (λ m. above_one x lists (first ∷ runs) j are.held (own, behind) m) (are.each j)))

      -- and the others with what it leaves, at its place
      runs_with_rest : (k : ℕ) → k ≤ length runs → AllWithin (λ a. begins_lower lt a.1.now rest.now ≡ true) runs 0 k → AllWithin
          (λ a. begins_lower lt a.1.now rest.now ≡ false) runs k (length runs) → AreRuns lt (set lists first.0 rest.now)
          (insert runs k (first.0, rest))
      runs_with_rest k h behind before =
          let put : ℕ × Bor (List X) = (first.0, rest) in
          let there = within lists first.0 x rest.now begins in
          record {
            held = all_insert (λ r. get_or (set lists first.0 rest.now) r.0 [] ≡ r.1.now) runs k put
                (held_set lists first.0 rest.now runs are.apart.0 are.held.1) (get_or-set_same lists first.0 rest.now [] there);
            each = λ j. ⊎_elim
                (λ e. inl (get_or-set_other lists first.0 j rest.now []
                (λ q. let m = ap length (sym begins ∙ sym (ap (λ n. get_or lists n []) q) ∙ e) in absurd (omega (arith, m))) ∙ e))
                (λ m. inr (⊎_elim (λ q. subst (λ n. IsOne n (insert runs k put)) q (one_put runs k put))
                (λ w. one_insert j runs k put w) m))
                (are.each j);
            apart = apart_insert runs k put are.apart.0 are.apart.1;
            rise = all_insert (λ r. Rises lt r.1.now) runs k put are.rise.1 (subst (Rises lt) is are.rise.0).1;
            order = inserted (begins_order (λ (r : ℕ × Bor (List X)). r.1.now) o) runs k put h behind before are.order.1;
          }

    -- where it has no row
    runs_without : first.1.now ≡ [] → AreRuns lt lists runs
    runs_without e = record {
      held = are.held.1;
      each = λ j. ⊎_elim (λ n. inl n) (λ m. ⊎_elim (λ q. inl (ap (λ n. get_or lists n []) (sym q) ∙ are.held.0 ∙ e)) (λ w. inr w) m)
          (are.each j);
      apart = are.apart.1;
      rise = are.rise.1;
      order = are.order.1;
    }

  pub numbered_none : (lists : List (List X)) (runs : List (ℕ × Bor (List X))) → runs ≡ [] → Numbered lt lists 0 runs
  numbered_none lists runs e = subst (Numbered lt lists 0) (sym e)
      (record { are = record { held = tt; each = λ j. inl refl; apart = tt; rise = tt; order = tt }; below = tt })

  pub numbered_more : (lists : List (List X)) (n : ℕ) (runs after : List (ℕ × Bor (List X))) (list : Bor (List X)) (k : ℕ)
      → n < length lists → list.now ≡ get_or lists n [] → Rises lt list.now → after ≡ insert runs k (n, list) → k ≤ length runs
      → AllWithin (λ a. begins_lower lt a.1.now list.now ≡ true) runs 0 k → AllWithin
      (λ a. begins_lower lt a.1.now list.now ≡ false) runs k (length runs) → Numbered lt lists n runs → Numbered lt lists
      (n + 1) after
  numbered_more lists n runs after list k within_lists at rises e h behind before c =
      let put : ℕ × Bor (List X) = (n, list) in
      let front = take n lists in
      let count : length front ≡ n = let m = length-take n lists in omega (arith, m, within_lists) in
      let more : take (n + 1) lists ≡ front ++ list.now ∷ [] = take_more lists n [] within_lists ∙ ap (λ l. front ++ l ∷ []) (sym at) in
      let inside : AllByRecursion (λ r. r.0 < length front) runs = subst (λ m. AllByRecursion (λ r. r.0 < m) runs) (sym count) c.below in
      subst (Numbered lt lists (n + 1)) (sym e) (record {
        are = subst (λ l. AreRuns lt l (insert runs k put)) (sym more) (record {
          held = all_insert (λ r. get_or (front ++ list.now ∷ []) r.0 [] ≡ r.1.now) runs k put
              (held_push front list.now runs inside c.are.held) (get_or_push front list.now [] n count);
          each = λ j. ⊎_elim
              (λ w. ⊎_elim (λ q. inr (subst (λ m. IsOne m (insert runs k put)) (sym (q ∙ count)) (one_put runs k put))) (λ s. inl (s ∙ w))
              (at_push front list.now j))
              (λ m. inr (one_insert j runs k put m))
              (c.are.each j);
          apart = apart_insert runs k put (below_other n runs c.below) c.are.apart;
          rise = all_insert (λ r. Rises lt r.1.now) runs k put c.are.rise rises;
          order = inserted (begins_order (λ (r : ℕ × Bor (List X)). r.1.now) o) runs k put h behind before c.are.order;
        });
        below = all_insert (λ r. r.0 < n + 1) runs k put (below_more n runs c.below) (omega arith);
      })

  pub planning_more : (lists : List (List X)) (plan after : List ℕ) (runs left next : List (ℕ × Bor (List X))) (first : ℕ × Bor (List X))
      (x : X) (rest : Bor (List X)) (k : ℕ) → runs ≡ first ∷ left → first.1.now ≡ x ∷ rest.now → after ≡ plan ++ first.0 ∷ []
      → next ≡ insert left k (first.0, rest)
      → k ≤ length left → AllWithin (λ a. begins_lower lt a.1.now rest.now ≡ true) left 0 k → AllWithin
      (λ a. begins_lower lt a.1.now rest.now ≡ false) left k (length left) → Planning lt lists plan runs
      → Planning lt lists after next
  planning_more lists plan after runs left next first x rest k e is more put h behind before p =
      let are = subst (AreRuns lt p.rest) e p.are in
      record {
        rest = set p.rest first.0 rest.now;
        leads = leads_on lt lists p.rest (set p.rest first.0 rest.now) plan after first.0 p.leads
            (row_is_least p.rest first left are x rest is) (ap (set p.rest first.0)
            (sym (ap (drop 1) (begins p.rest first left are x rest is)))) more;
        are = subst (AreRuns lt (set p.rest first.0 rest.now)) (sym put)
            (runs_with_rest p.rest first left are x rest is k h behind before);
      }

  pub planning_less : (lists : List (List X)) (plan : List ℕ) (runs left : List (ℕ × Bor (List X))) (first : ℕ × Bor (List X))
      → runs ≡ first ∷ left → first.1.now ≡ [] → Planning lt lists plan runs → Planning lt lists plan left
  planning_less lists plan runs left first e is p = record {
    rest = p.rest;
    leads = p.leads;
    are = runs_without p.rest first left
        (subst (AreRuns lt p.rest) e p.are) is;
  }

  pub planning_end : (lists : List (List X)) (plan : List ℕ) (runs : List (ℕ × Bor (List X))) → runs ≡ [] → Planning lt lists plan runs
      → IsPlan lt lists plan
  planning_end lists plan runs e p =
      let are = subst (AreRuns lt p.rest) e p.are in
      led lt lists p.rest plan p.leads (none_left p.rest (λ j. ⊎_elim (λ n. n) (λ m. absurd m) (are.each j)))

-- how many rows and runs are left
module _ {X : Type 0} where
  abbrev pub weight : List (ℕ × Bor (List X)) → ℕ
  weight runs = length (flat_map (λ r. r.1.now) runs) + length runs

  count_insert : (l : List (ℕ × Bor (List X))) (k : ℕ) (x : ℕ × Bor (List X)) → length
      (flat_map (λ r. r.1.now) (insert l k x)) ≡ length x.1.now + length (flat_map (λ r. r.1.now) l)
  count_insert l zero x = length-append x.1.now (flat_map (λ r. r.1.now) l)
  count_insert [] (suc k) x = length-append x.1.now []
  count_insert (y ∷ l) (suc k) x =
      let a = length-append y.1.now (flat_map (λ r. r.1.now) (insert l k x)) in
      let b = count_insert l k x in
      let c = length-append y.1.now (flat_map (λ r. r.1.now) l) in
      omega (arith, a, b, c)

  pub lighter_more : (runs left next : List (ℕ × Bor (List X))) (first : ℕ × Bor (List X)) (x : X) (rest : Bor (List X)) (k : ℕ)
      → runs ≡ first ∷ left → first.1.now ≡ x ∷ rest.now → next ≡ insert left k (first.0, rest) → k ≤ length left
      → weight next < weight runs
  lighter_more runs left next first x rest k e is put h =
      let a = ap weight e in
      let b = ap weight put in
      let c = count_insert left k (first.0, rest) in
      let d = length-insert left k (first.0, rest) h in
      let f = length-append first.1.now (flat_map (λ r. r.1.now) left) in
      let n = ap length is in
      omega (arith, a, b, c, d, f, n)
