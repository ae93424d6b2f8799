-- Lists that are cut at keys.
use Rattle.std.proofs.Common.{◌≡◌, ℕ, zero, suc, ◌+◌, ◌<◌, ◌≤◌, Bool, true, false, List, [], ◌∷◌, ◌++◌, length, map, get_or, take, drop}
use Rattle.std.proofs.Common.{refl, sym, ap, subst, ◌∙◌, arith, append_assoc, append-nil, true≢false}
use Rattle.std.specs.Cmp.{IsStrictWeakOrder}
use Rattle.std.specs.List.{AllByRecursion, All, AllWithin}
use Rattle.std.specs.List.Sorted.{IsPartitionedBy}
use Rattle.std.specs.Borrow.{Bor}
use Rattle.std.specs.declared.vec.Vec.{Vec}
use Rattle.std.proofs.lemmas.Grind.{flat_map-append}
use Rattle.std.proofs.lemmas.List.{map-append, take_more, length-map, length_push, get_or-map, get_or-take, get_or-drop}
use Rattle.std.proofs.lemmas.List.Elements.{All-from_recursion, recursion_from_All, All-append, All-push, All-get_or, All-map}
use Rattle.mr_defs.specs.Partitions.{concatenated}
use Rattle.mr_merge.proofs.Plans.{above_front}
use Rattle.mr_merge.proofs.Order.{irreflexive, seen_at}
use Rattle.mr_merge.specs.Lists.{each_with, lent, lists_of}
use Rattle.mr_merge.specs.Rising.{AreAbove, Rises}
use Rattle.mr_merge.specs.Plans.{IsCutOff, IsCut}

module _ {X : Type 0} where
  lent_push : (lists : List (Bor (List X))) (l : Bor (List X)) → lent (lists ++ l ∷ []) ≡ lent lists ++ l.now ∷ []
  lent_push lists l = map-append (λ k. k.now) lists (l ∷ [])

  with_more : (fronts backs : List (List X)) (f b : List X) → length backs ≡ length fronts → each_with (fronts ++ f ∷ [])
      (backs ++ b ∷ []) ≡ each_with fronts backs ++ (f ++ b) ∷ []
  with_more [] [] f b n = refl
  with_more [] (c ∷ backs) f b n = absurd (omega (arith, n))
  with_more (e ∷ fronts) [] f b n = absurd (omega (arith, n))
  with_more (e ∷ fronts) (c ∷ backs) f b n = ap (λ l. (e ++ c) ∷ l) (with_more fronts backs f b (omega (arith, n)))

  rows_push : (lists : List (List X)) (l : List X) → concatenated (lists ++ l ∷ []) ≡ concatenated lists ++ l
  rows_push lists l = flat_map-append (λ k. k) lists (l ∷ []) ∙ ap (λ k. concatenated lists ++ k) (append-nil l)

module _ {X : Type 0} (lt : X → X → Bool) where
  pub front_rises : (xs ys : List X) → Rises lt (xs ++ ys) → Rises lt xs
  front_rises [] ys h = tt
  front_rises (x ∷ xs) ys h = (above_front lt x xs ys h.0, front_rises xs ys h.1)

  pub back_rises : (xs ys : List X) → Rises lt (xs ++ ys) → Rises lt ys
  back_rises [] ys h = h
  back_rises (x ∷ xs) ys h = back_rises xs ys h.1

  module _ (o : IsStrictWeakOrder lt) where
    far : (xs : List X) → Rises lt xs → (i j : ℕ) (d : X) → i ≤ j → j < length xs → lt (get_or xs j d) (get_or xs i d) ≡ false
    far [] r i j d h k = absurd (omega (arith, k))
    far (x ∷ xs) r zero zero d h k = irreflexive o x
    far (x ∷ xs) r zero (suc j) d h k = All-get_or (λ y. lt y x ≡ false) xs j d (omega (arith, k))
        (All-from_recursion (λ y. lt y x ≡ false) xs r.0)
    far (x ∷ xs) r (suc i) zero d h k = absurd (omega (arith, h))
    far (x ∷ xs) r (suc i) (suc j) d h k = far xs r.1 i j d (omega (arith, h)) (omega (arith, k))

    -- what passes a test stands before what fails it, where all that isn't lesser than what fails it fails it too
    pub parted : (test : X → Bool) → ((x y : X) → lt x y ≡ false → test y ≡ false → test x ≡ false) → (xs : List X) → Rises lt xs
        → IsPartitionedBy test xs
    parted test down xs r i j d h k t = elim (test (get_or xs i d)) as (λ b. test (get_or xs i d) ≡ b → b ≡ true) [
      | true ↦ λ e. refl
      | false ↦ λ e. absurd (true≢false (sym t ∙ down (get_or xs j d) (get_or xs i d) (far xs r i j d h k) e))
    ] refl

  -- so many of the lists are cut by a test: what passes it stands in the fronts
  pub record Cutting (test : X → Bool) (lists : List (List X)) (n : ℕ) (fronts backs : List (Bor (List X))) : Type 0 where
    pub len : length backs ≡ length fronts
    pub joined : take n lists ≡ each_with (lent fronts) (lent backs)
    pub passed : All (λ x. test x ≡ true) (concatenated (lent fronts))
    pub failed : All (λ x. test x ≡ false) (concatenated (lent backs))
    pub fronts_rise : All (λ l. Rises lt l.now) fronts
    pub backs_rise : All (λ l. Rises lt l.now) backs

  pub cutting_more : (test : X → Bool) (lists : List (List X)) (n : ℕ) (fronts backs fronts' backs' : List (Bor (List X)))
      (f b : Bor (List X)) (list : List X) → n < length lists → list ≡ get_or lists n [] → Rises lt list
      → list ≡ f.now ++ b.now → All (λ x. test x ≡ true) f.now → All (λ x. test x ≡ false) b.now → fronts' ≡ fronts ++ f ∷ []
      → backs' ≡ backs ++ b ∷ [] → Cutting test lists n fronts backs → Cutting test lists (n + 1) fronts' backs'
  cutting_more test lists n fronts backs fronts' backs' f b list h at rises cut front back e k c =
      let fs = ap lent e ∙ lent_push fronts f in
      let bs = ap lent k ∙ lent_push backs b in
      let same : length (lent backs) ≡ length (lent fronts) = length-map backs (λ l. l.now) ∙ c.len ∙ sym
      (length-map fronts (λ l. l.now)) in
      let two : Rises lt (f.now ++ b.now) = subst (Rises lt) cut rises in
      record {
        len = ap length k ∙ length_push backs b ∙ ap (λ m. m + 1) c.len ∙ sym (ap length e ∙ length_push fronts f);
        joined = take_more lists n [] h ∙ ap (λ l. l ++ get_or lists n [] ∷ []) c.joined ∙ ap
            (λ l. each_with (lent fronts) (lent backs) ++ l ∷ []) (sym at ∙ cut) ∙ sym
            (ap (λ l. each_with l (lent backs')) fs ∙ ap (λ l. each_with (lent fronts ++ f.now ∷ []) l) bs ∙ with_more (lent fronts)
            (lent backs) f.now b.now same);
        passed = subst (All (λ x. test x ≡ true)) (sym (ap concatenated fs ∙ rows_push (lent fronts) f.now))
            (All-append (λ x. test x ≡ true) (concatenated (lent fronts)) f.now c.passed front);
        failed = subst (All (λ x. test x ≡ false)) (sym (ap concatenated bs ∙ rows_push (lent backs) b.now))
            (All-append (λ x. test x ≡ false) (concatenated (lent backs)) b.now c.failed back);
        fronts_rise = subst (All (λ l. Rises lt l.now)) (sym e)
            (All-push (λ l. Rises lt l.now) fronts f c.fronts_rise (front_rises f.now b.now two));
        backs_rise = subst (All (λ l. Rises lt l.now)) (sym k)
            (All-push (λ l. Rises lt l.now) backs b c.backs_rise (back_rises f.now b.now two));
      }

  above_failed : (test : X → Bool) → ((x y : X) → test x ≡ true → test y ≡ false → lt y x ≡ false) → (x : X) (ys : List X) → test x ≡ true
      → AllByRecursion (λ y. test y ≡ false) ys → AreAbove lt x ys
  above_failed test parts x [] h k = tt
  above_failed test parts x (y ∷ ys) h k = (parts x y h k.0, above_failed test parts x ys h k.1)

  below_failed : (test : X → Bool) → ((x y : X) → test x ≡ true → test y ≡ false → lt y x ≡ false) → (xs ys : List X) → AllByRecursion
      (λ x. test x ≡ true) xs → AllByRecursion (λ y. test y ≡ false) ys → AllByRecursion (λ x. AreAbove lt x ys) xs
  below_failed test parts [] ys h k = tt
  below_failed test parts (x ∷ xs) ys h k = (above_failed test parts x ys h.0 k, below_failed test parts xs ys h.1 k)

  -- all are cut
  pub cut_off : (test : X → Bool) (lists : List (List X)) (n : ℕ) (fronts backs : List (Bor (List X)))
      → ((x y : X) → test x ≡ true → test y ≡ false → lt y x ≡ false) → take n lists ≡ lists → Cutting test lists n fronts backs
      → IsCutOff lt lists (lent fronts) (lent backs)
  cut_off test lists n fronts backs parts all c = record {
    len = length-map backs (λ l. l.now) ∙ c.len ∙ sym (length-map fronts (λ l. l.now));
    joined = sym all ∙ c.joined;
    below = below_failed test parts (concatenated (lent fronts)) (concatenated (lent backs))
        (recursion_from_All (λ x. test x ≡ true) (concatenated (lent fronts)) c.passed)
        (recursion_from_All (λ x. test x ≡ false) (concatenated (lent backs)) c.failed);
  }

  -- ranges so far lead from the lists to what is left
  abbrev pub CutsTo : List (List X) → List (List (List X)) → List (List X) → Type 0
  CutsTo lists ranges rest = (more : List (List (List X))) → IsCut lt rest more → IsCut lt lists (ranges ++ more)

  pub cuts_start : {Z : Type 0} (lists rest : List (List X)) (ranges : List (Vec (Bor (List X)) Z)) → rest ≡ lists → ranges ≡ []
      → CutsTo lists (map (λ r. lent r.items) ranges) rest
  cuts_start lists rest ranges e f more h = subst (λ l. IsCut lt lists (map (λ r. lent r.items) l ++ more)) (sym f)
      (subst (λ l. IsCut lt l more) e h)

  -- what doesn't fall doesn't fall where it is lent
  pub rise_lent : {Z : Type 0} (lists : List (Vec X Z)) (slices : List (Bor (List X))) → lent slices ≡ lists_of lists → All
      (λ l. Rises lt l.items) lists → All (λ l. Rises lt l.now) slices
  rise_lent lists slices e h k d w =
      let n = length-map slices (λ l. l.now) in
      subst (Rises lt) (get_or-map (λ l. l.now) slices k d d.now w)
      (subst (All (Rises lt)) (sym e) (All-map (Rises lt) (λ l. l.items) lists h) k d.now (omega (arith, w, n)))

  pub cuts_on : {Z : Type 0} (lists rest fronts backs : List (List X)) (ranges after : List (Vec (Bor (List X)) Z))
      (range : Vec (Bor (List X)) Z) → lent range.items ≡ fronts → after ≡ ranges ++ range ∷ [] → CutsTo lists
      (map (λ r. lent r.items) ranges) rest → IsCutOff lt rest fronts backs → CutsTo lists (map (λ r. lent r.items) after) backs
  cuts_on lists rest fronts backs ranges after range f e cuts off more h =
      let put = ap (map (λ r. lent r.items)) e ∙ map-append (λ r. lent r.items) ranges (range ∷ []) ∙ ap
      (λ l. map (λ r. lent r.items) ranges ++ l ∷ []) f in
      subst (λ l. IsCut lt lists (l ++ more)) (sym put) (subst (IsCut lt lists)
      (sym (append_assoc (map (λ r. lent r.items) ranges) (fronts ∷ []) more)) (cuts (fronts ∷ more) (backs, off, h)))

  nils : List (List X) → List (List X)
  nils lists = map (λ _. []) lists

  no_rows : (lists : List (List X)) → concatenated (nils lists) ≡ []
  unfolding nils
  no_rows [] = refl
  no_rows (l ∷ lists) = no_rows lists

  with_nils : (lists : List (List X)) → lists ≡ each_with lists (nils lists)
  unfolding nils
  with_nils [] = refl
  with_nils (l ∷ lists) = ap (λ k. l ∷ k) (with_nils lists) ∙ ap (λ k. k ∷ each_with lists (nils lists)) (sym (append-nil l))

  below_none : (xs : List X) → AllByRecursion (λ x. AreAbove lt x []) xs
  below_none [] = tt
  below_none (x ∷ xs) = (tt, below_none xs)

  same_count : (lists : List (List X)) → length (nils lists) ≡ length lists
  unfolding nils
  same_count lists = length-map lists (λ _. [])

  -- what is left is the last range
  pub cut_all : {Z : Type 0} (lists rest : List (List X)) (ranges after : List (Vec (Bor (List X)) Z)) (range : Vec (Bor (List X)) Z)
      → lent range.items ≡ rest → after ≡ ranges ++ range ∷ [] → CutsTo lists (map (λ r. lent r.items) ranges) rest → IsCut lt lists
      (map (λ r. lent r.items) after)
  cut_all lists rest ranges after range f e cuts =
      subst (IsCut lt lists) (append-nil (map (λ r. lent r.items) after))
      (cuts_on lists rest rest (nils rest) ranges after range f e cuts
      (record {
        len = same_count rest;
        joined = with_nils rest;
        below = subst
            (λ l. AllByRecursion (λ x. AreAbove lt x l) (concatenated rest)) (sym (no_rows rest)) (below_none (concatenated rest));
      })
      [] (no_rows rest))

-- a key that is lesser than another is none greater than one that isn't lesser than that
pub told_apart : {K : Type 0} {lt : K → K → Bool} (o : IsStrictWeakOrder lt) (key x y : K) → lt x key ≡ true → lt y key ≡ false
    → lt y x ≡ false
told_apart o key x y h k = o.chain y key x k (o.one_way x key h)

-- the two parts of a list that is split at a place
pub of_front : {X : Type 0} (P : X → Type 0) (xs ys : List X) (at : ℕ) → ys ≡ take at xs → length ys ≡ at → AllWithin P xs 0 at → All P ys
of_front P xs ys at e n h k d w = subst P (sym (get_or-take at xs k d (omega (arith, w, n))) ∙ sym (ap (λ l. get_or l k d) e))
    (h k d (omega arith) (omega (arith, w, n)))

pub of_back : {X : Type 0} (P : X → Type 0) (xs ys : List X) (at : ℕ) → ys ≡ drop at xs → length ys + at ≡ length xs → AllWithin P xs at
    (length xs) → All P ys
of_back P xs ys at e n h k d w = subst P (sym (get_or-drop at xs k d) ∙ sym (ap (λ l. get_or l k d) e))
    (h (at + k) d (omega arith) (omega (arith, w, n)))

-- one list more that is lent
pub lent_more : {X Z : Type 0} (slices after : List (Bor (List X))) (s : Bor (List X)) (lists : List (Vec X Z)) (i : ℕ) (v : Vec X Z)
    → i < length lists → v ≡ get_or lists i v → s.now ≡ v.items → after ≡ slices ++ s ∷ [] → lent slices ≡ take i (lists_of lists)
    → lent after ≡ take (i + 1) (lists_of lists)
lent_more slices after s lists i v h at is e inv =
    let n = length-map lists (λ l. l.items) in
    ap lent e ∙ lent_push slices s ∙ ap (λ l. l ++ s.now ∷ []) inv ∙ ap (λ k. take i (lists_of lists) ++ k ∷ [])
    (is ∙ seen_at (λ l. l.items) lists i v h at) ∙ sym (take_more (lists_of lists) i [] (omega (arith, h, n)))
