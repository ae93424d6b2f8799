-- Texts of rows that are taken by plans.
use Rattle.std.proofs.Common.{◌≡◌, ℕ, zero, suc, ◌<◌, Bool, List, [], ◌∷◌, ◌++◌, length, map, get_or, set, drop, take, refl, sym, ap, subst}
use Rattle.std.proofs.Common.{◌∙◌, arith, append_assoc}
use Rattle.std.specs.Prelude.{Result, Ok, Err, IfOk, flat_map}
use Rattle.std.specs.Borrow.{Bor}
use Rattle.std.specs.List.Sorted.{IsPermutation}
use Rattle.std.specs.declared.vec.Vec.{Vec}
use Rattle.std.proofs.lemmas.List.{length-map, get_or-map}
use Rattle.std.proofs.lemmas.Grind.{flat_map-append}
use Rattle.std.proofs.lemmas.List.Sorted.{IsPermutation-refl, IsPermutation-trans, IsPermutation-append_right}
use Rattle.mr_defs.specs.Emission.{Row}
use Rattle.mr_defs.specs.Partitions.{concatenated}
use Rattle.mr_items.specs.Texts.{row_text, rows_text}
use Rattle.mr_merge.specs.Lists.{lent}
use Rattle.mr_merge.specs.Plans.{IsLeast, IsPlan, IsCut}
use Rattle.mr_merge.specs.Rising.{AreAbove, Rises}
use Rattle.mr_merge.specs.Taken.{taken_rows}
use Rattle.mr_merge.proofs.Plans.{planned_both, shuffled, taken, taken_both}

module _ {X : Type 0} (lt : X → X → Bool) where
  -- all rows are taken, and none is lesser than one before it
  pub taken_all : (lists : List (List X)) (plan : List ℕ) → IsPlan lt lists plan
      → IsPermutation (concatenated lists) (taken_rows lists plan)
  taken_all lists [] h = subst (λ l. IsPermutation l []) (sym h) (IsPermutation-refl [])
  taken_all lists (i ∷ plan) h = elim (get_or lists i []) as (λ l. get_or lists i [] ≡ l → IsLeast lt (concatenated lists) l
      → IsPlan lt (set lists i (drop 1 l)) plan
      → IsPermutation (concatenated lists) (take 1 l ++ taken_rows (set lists i (drop 1 l)) plan)) [
        | [] ↦ λ e f r. absurd f
        | x ∷ xs ↦ λ e f r. IsPermutation-trans (concatenated lists) (x ∷ concatenated (set lists i xs))
            (x ∷ taken_rows (set lists i xs) plan) (taken lists i x xs e)
            (IsPermutation-append_right (x ∷ []) (concatenated (set lists i xs)) (taken_rows (set lists i xs) plan)
            (taken_all (set lists i xs) plan r))
      ] refl h.0 h.1

  pub taken_rise : (lists : List (List X)) (plan : List ℕ) → IsPlan lt lists plan → Rises lt (taken_rows lists plan)
  taken_rise lists [] h = tt
  taken_rise lists (i ∷ plan) h = elim (get_or lists i []) as (λ l. get_or lists i [] ≡ l → IsLeast lt (concatenated lists) l
      → IsPlan lt (set lists i (drop 1 l)) plan → Rises lt (take 1 l ++ taken_rows (set lists i (drop 1 l)) plan)) [
        | [] ↦ λ e f r. absurd f
        | x ∷ xs ↦ λ e f r. (
          shuffled lt x (concatenated (set lists i xs)) (taken_rows (set lists i xs) plan) (taken_all (set lists i xs) plan r)
              (shuffled lt x (concatenated lists) (x ∷ concatenated (set lists i xs)) (taken lists i x xs e) f).1,
          taken_rise (set lists i xs) plan r,
        )
      ] refl h.0 h.1

module _ {K : Type 0} (print : K → List ℕ) where
  -- one row more
  pub text_more : (whole text after : List ℕ) (lists next : List (List (Row K))) (i : ℕ) (plan : List ℕ) (row : Row K)
      → get_or lists i [] ≡ row ∷ drop 1 (get_or lists i []) → next ≡ set lists i (drop 1 (get_or lists i []))
      → after ≡ text ++ row_text print row → whole ≡ text ++ rows_text print (taken_rows lists (i ∷ plan))
      → whole ≡ after ++ rows_text print (taken_rows next plan)
  text_more whole text after lists next i plan row first n a e =
      let rest = rows_text print (taken_rows next plan) in
      let own : rows_text print (taken_rows lists (i ∷ plan)) ≡ row_text print row ++ rest =
      ap (λ l. rows_text print (take 1 l ++ taken_rows (set lists i (drop 1 (get_or lists i []))) plan)) first
      ∙ ap (λ l. row_text print row ++ rows_text print (taken_rows l plan)) (sym n) in
      e ∙ ap (λ t. text ++ t) own ∙ sym (append_assoc text (row_text print row) rest) ∙ ap (λ t. t ++ rest) (sym a)

  module _ (lt : Row K → Row K → Bool) where
    -- texts of the ranges, one behind the other, are a text of the lists
    pub printed : {Z : Type 0} (lists : List (List (Row K))) (ranges : List (Vec (Bor (List (Row K))) Z)) (texts : List (List ℕ))
        → length texts ≡ length ranges → IsCut lt lists (map (λ r. lent r.items) ranges)
        → ((i : ℕ) (r : Vec (Bor (List (Row K))) Z) (t : List ℕ) → i < length ranges → r ≡ get_or ranges i r → t ≡ get_or texts i t
        → (plan : List ℕ) × IsPlan lt (lent r.items) plan × (t ≡ rows_text print (taken_rows (lent r.items) plan)))
        → (plan : List ℕ) × IsPlan lt lists plan × (concatenated texts ≡ rows_text print (taken_rows lists plan))
    printed lists [] [] n cut each = ([], cut, refl)
    printed lists [] (t ∷ texts) n cut each = absurd (omega (arith, n))
    printed lists (r ∷ ranges) [] n cut each = absurd (omega (arith, n))
    printed lists (r ∷ ranges) (t ∷ texts) n cut each =
        let backs = cut.0 in
        let off = cut.1 in
        let own = each 0 r t (omega arith) refl refl in
        let more = printed backs ranges texts (omega (arith, n)) cut.2 (λ i s u h e f. each (suc i) s u (omega (arith, h)) e f) in (
          own.0 ++ more.0,
          subst (λ l. IsPlan lt l (own.0 ++ more.0)) (sym off.joined)
              (planned_both lt (lent r.items) backs own.0 more.0 off.len off.below own.1 more.1),
          ap (λ u. u ++ concatenated texts) own.2
              ∙ ap (λ u. rows_text print (taken_rows (lent r.items) own.0) ++ u) more.2
              ∙ sym (flat_map-append (row_text print) (taken_rows (lent r.items) own.0) (taken_rows backs more.0))
              ∙ ap (rows_text print) (sym (taken_both lt (lent r.items) backs own.0 more.0 off.len own.1))
              ∙ ap (λ l. rows_text print (taken_rows l (own.0 ++ more.0))) (sym off.joined),
        )

    -- the same of results of which none is missing
    pub printed_by : {Z M : Type 0} (lists : List (List (Row K))) (ranges : List (Vec (Bor (List (Row K))) Z))
        (results : List (Result (List ℕ) M)) (texts : List (List ℕ)) → length results ≡ length ranges → results ≡ map Ok texts
        → IsCut lt lists (map (λ r. lent r.items) ranges)
        → ((i : ℕ) (r : Vec (Bor (List (Row K))) Z) (s : Result (List ℕ) M) → i < length ranges → r ≡ get_or ranges i r
        → s ≡ get_or results i s
        → IfOk s (λ t. (plan : List ℕ) × IsPlan lt (lent r.items) plan × (t ≡ rows_text print (taken_rows (lent r.items) plan))))
        → (plan : List ℕ) × IsPlan lt lists plan × (concatenated texts ≡ rows_text print (taken_rows lists plan))
    printed_by lists ranges results texts n are cut each =
        let count : length texts ≡ length ranges = sym (length-map texts Ok) ∙ sym (ap length are) ∙ n in
        printed lists ranges texts count cut
        (λ i r t h e f. each i r (Ok t) h e (ap Ok f ∙ sym (get_or-map Ok texts i t (Ok t) (omega (arith, h, count))) ∙ ap
        (λ l. get_or l i (Ok t)) (sym are)))

pub if_ok : {A E : Type 0} (result : Result A E) (P Q : A → Type 0) → ((a : A) → P a → Q a) → IfOk result P → IfOk result Q
if_ok (Ok a) P Q step p = step a p
if_ok (Err e) P Q step p = tt
