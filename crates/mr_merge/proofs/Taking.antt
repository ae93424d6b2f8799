-- Rows that are taken by a plan.
use Rattle.std.proofs.Common.{◌≡◌, ℕ, ◌<◌, Bool, false, List, [], ◌∷◌, ◌++◌, length, map, get_or, set, drop, refl, sym, ap, subst, ◌∙◌}
use Rattle.std.proofs.Common.{arith}
use Rattle.std.specs.List.{AllByRecursion, All}
use Rattle.std.specs.List.Sorted.{IsPermutation}
use Rattle.std.proofs.lemmas.List.{length-map, length-set}
use Rattle.std.proofs.lemmas.List.Elements.{All-weaker, All-push, All-nil, recursion_from_All}
use Rattle.std.proofs.lemmas.List.Sorted.{IsPermutation-refl, IsPermutation-pop_more}
use Rattle.std.specs.declared.vec.Vec.{Vec}
use Rattle.mr_merge.specs.Lists.{lists_of, rows_of}
use Rattle.mr_defs.specs.Partitions.{concatenated}
use Rattle.mr_merge.specs.Rising.{AreAbove, Rises}
use Rattle.mr_merge.specs.Plans.{IsLeast}
use Rattle.mr_merge.proofs.Plans.{taken, within, shuffled}

module _ {X : Type 0} (lt : X → X → Bool) where
  -- a list from which a row may be taken is there, and has one
  pub there : (rows : List X) (lists : List (List X)) (i : ℕ) → IsLeast lt rows (get_or lists i [])
      → (i < length lists) × (0 < length (get_or lists i []))
  there rows lists i h = elim (get_or lists i []) as (λ l. get_or lists i [] ≡ l → IsLeast lt rows l
      → (i < length lists) × (0 < length l)) [
        | [] ↦ λ e f. absurd f
        | x ∷ xs ↦ λ e f. (within lists i x xs e, omega arith)
      ] refl h

  -- rows so far, which don't fall, and what is left, of which none is lesser
  pub record Moving (whole rows : List X) (lists : List (List X)) : Type 0 where
    pub same : IsPermutation whole (rows ++ concatenated lists)
    pub rises : Rises lt rows
    pub above : All (λ x. AreAbove lt x (concatenated lists)) rows

  moving_start : (rows : List X) (lists : List (List X)) → rows ≡ [] → Moving (concatenated lists) rows lists
  moving_start rows lists e = subst (λ l. Moving (concatenated lists) l lists) (sym e)
      (record { same = IsPermutation-refl (concatenated lists); rises = tt; above = All-nil (λ x. AreAbove lt x (concatenated lists)) })

  -- the same of vectors and of what they are as queues
  pub rows_are : {Z : Type 0} (lists : List (Vec X Z)) → concatenated (lists_of lists) ≡ rows_of lists
  rows_are [] = refl
  rows_are (l ∷ lists) = ap (λ k. l.items ++ k) (rows_are lists)

  pub moving_all : {Z : Type 0} (lists : List (Vec X Z)) (queues : List (List X)) (rows : List X) → queues ≡ lists_of lists → rows ≡ []
      → Moving (rows_of lists) rows queues
  moving_all lists queues rows e f = subst (λ w. Moving w rows queues) (ap concatenated e ∙ rows_are lists) (moving_start rows queues f)

  above_push : (y x : X) (l : List X) → AreAbove lt y l → lt x y ≡ false → AreAbove lt y (l ++ x ∷ [])
  above_push y x [] are e = (e, tt)
  above_push y x (z ∷ l) are e = (are.0, above_push y x l are.1 e)

  rises_push : (rows : List X) (x : X) → Rises lt rows → AllByRecursion (λ y. lt x y ≡ false) rows → Rises lt (rows ++ x ∷ [])
  rises_push [] x r h = (tt, tt)
  rises_push (y ∷ rows) x r h = (above_push y x rows r.0 h.0, rises_push rows x r.1 h.1)

  pub moving_more : (whole rows after : List X) (lists next : List (List X)) (i : ℕ) (x : X) → IsLeast lt (concatenated lists)
      (get_or lists i []) → get_or lists i [] ≡ x ∷ drop 1 (get_or lists i []) → next ≡ set lists i (drop 1 (get_or lists i []))
      → after ≡ rows ++ x ∷ [] → Moving whole rows lists → Moving whole after next
  moving_more whole rows after lists next i x least first n e m =
      let rest = drop 1 (get_or lists i []) in
      let p : IsPermutation (concatenated lists) (x ∷ concatenated next) = subst
      (λ l. IsPermutation (concatenated lists) (x ∷ concatenated l)) (sym n) (taken lists i x rest first) in
      let own : AreAbove lt x (concatenated next) = (shuffled lt x (concatenated lists) (x ∷ concatenated next) p
      (subst (IsLeast lt (concatenated lists)) first least)).1 in
      let each : All (λ y. AreAbove lt y (x ∷ concatenated next)) rows = All-weaker (λ y. AreAbove lt y (concatenated lists))
      (λ y. AreAbove lt y (x ∷ concatenated next)) (λ y h. shuffled lt y (concatenated lists)
      (x ∷ concatenated next) p h) rows m.above in
      subst (λ l. Moving whole l next) (sym e) (record {
        same = IsPermutation-pop_more whole rows (concatenated lists) (concatenated next) x m.same p;
        rises = rises_push rows x m.rises (recursion_from_All (λ y. lt x y ≡ false) rows
            (All-weaker (λ y. AreAbove lt y (x ∷ concatenated next)) (λ y. lt x y ≡ false) (λ y h. h.0) rows each));
        above = All-push (λ y. AreAbove lt y (concatenated next)) rows x
            (All-weaker (λ y. AreAbove lt y (x ∷ concatenated next)) (λ y. AreAbove lt y (concatenated next)) (λ y h. h.1) rows each) own;
      })

-- a list that is written over and keeps its length
pub kept_count : {A X : Type 0} (f : A → List X) (olds news : List A) (i : ℕ) (l : List X) → map f news ≡ set (map f olds) i l
    → length news ≡ length olds
kept_count f olds news i l e = sym (length-map news f) ∙ ap length e ∙ length-set (map f olds) i l ∙ length-map olds f
