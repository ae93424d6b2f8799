-- Plans: row after row, and range after range.
use Rattle.std.proofs.Common.{◌≡◌, ℕ, zero, suc, ◌<◌, Bool, false, List, [], ◌∷◌, ◌++◌, length, map, get_or, set, drop, take, refl, sym, ap}
use Rattle.std.proofs.Common.{subst, ◌∙◌, arith, append_assoc, append-nil}
use Rattle.std.specs.Prelude.{Result, Ok, IfOk}
use Rattle.std.specs.List.{AllByRecursion}
use Rattle.std.specs.List.Sorted.{IsPermutation}
use Rattle.std.specs.Borrow.{Bor}
use Rattle.std.specs.declared.vec.Vec.{Vec}
use Rattle.std.proofs.lemmas.List.{length-map, length-set, get_or-map}
use Rattle.std.proofs.lemmas.List.Elements.{All-from_recursion, recursion_from_All}
use Rattle.std.proofs.lemmas.List.Sorted.{IsPermutation-refl, IsPermutation-trans, IsPermutation-append_right, IsPermutation-middle}
use Rattle.std.proofs.lemmas.List.Sorted.{All-permutation}
use Rattle.mr_defs.specs.Partitions.{concatenated}
use Rattle.mr_merge.specs.Lists.{each_with, lent, rows_of}
use Rattle.mr_merge.specs.Rising.{AreAbove}
use Rattle.mr_merge.specs.Plans.{IsLeast, IsPlan, IsCut}
use Rattle.mr_merge.specs.Taken.{taken_rows}

-- the rows of lists of which one loses its first
pub taken : {X : Type 0} (lists : List (List X)) (i : ℕ) (x : X) (rest : List X) → get_or lists i [] ≡ x ∷ rest → IsPermutation
    (concatenated lists) (x ∷ concatenated (set lists i rest))
taken [] i x rest e = let n = ap length e in absurd (omega (arith, n))
taken (l ∷ lists) zero x rest e = subst (λ k. IsPermutation (k ++ concatenated lists) (x ∷ (rest ++ concatenated lists))) (sym e)
    (IsPermutation-refl (x ∷ (rest ++ concatenated lists)))
taken (l ∷ lists) (suc i) x rest e =
    IsPermutation-trans (l ++ concatenated lists) (l ++ x ∷ concatenated (set lists i rest)) (x ∷ (l ++ concatenated (set lists i rest)))
    (IsPermutation-append_right l (concatenated lists) (x ∷ concatenated (set lists i rest)) (taken lists i x rest e))
    (IsPermutation-middle l x (concatenated (set lists i rest)))

-- a list of which a row may be taken is there
pub within : {X : Type 0} (lists : List (List X)) (i : ℕ) (x : X) (rest : List X) → get_or lists i [] ≡ x ∷ rest → i < length lists
within [] i x rest e = let n = ap length e in absurd (omega (arith, n))
within (l ∷ lists) zero x rest e = omega arith
within (l ∷ lists) (suc i) x rest e = let h = within lists i x rest e in omega (arith, h)

module _ {X : Type 0} (lt : X → X → Bool) where
  pub above_both : (x : X) (xs ys : List X) → AreAbove lt x xs → AreAbove lt x ys → AreAbove lt x (xs ++ ys)
  above_both x [] ys h k = k
  above_both x (y ∷ xs) ys h k = (h.0, above_both x xs ys h.1 k)

  pub above_front : (x : X) (xs ys : List X) → AreAbove lt x (xs ++ ys) → AreAbove lt x xs
  above_front x [] ys h = tt
  above_front x (y ∷ xs) ys h = (h.0, above_front x xs ys h.1)

  above_back : (x : X) (xs ys : List X) → AreAbove lt x (xs ++ ys) → AreAbove lt x ys
  above_back x [] ys h = h
  above_back x (y ∷ xs) ys h = above_back x xs ys h.1

  pub shuffled : (x : X) (xs ys : List X) → IsPermutation xs ys → AreAbove lt x xs → AreAbove lt x ys
  shuffled x xs ys p h = recursion_from_All (λ y. lt y x ≡ false) ys
      (All-permutation (λ y. lt y x ≡ false) xs ys p (All-from_recursion (λ y. lt y x ≡ false) xs h))

  -- what is planned leads from some lists to others
  abbrev pub Leads : List (List X) → List ℕ → List (List X) → Type 0
  Leads lists plan rest = (more : List ℕ) → IsPlan lt rest more → IsPlan lt lists (plan ++ more)

  pub leads_on : (lists rest next : List (List X)) (plan after : List ℕ) (i : ℕ) → Leads lists plan rest → IsLeast lt (concatenated rest)
      (get_or rest i []) → next ≡ set rest i (drop 1 (get_or rest i [])) → after ≡ plan ++ i ∷ [] → Leads lists after next
  leads_on lists rest next plan after i leads least n a more h =
      subst (λ p. IsPlan lt lists (p ++ more)) (sym a) (subst (IsPlan lt lists) (sym (append_assoc plan (i ∷ []) more))
      (leads (i ∷ more) (least, subst (λ l. IsPlan lt l more) n h)))

  pub led : (lists rest : List (List X)) (plan : List ℕ) → Leads lists plan rest → concatenated rest ≡ [] → IsPlan lt lists plan
  led lists rest plan leads e = subst (IsPlan lt lists) (append-nil plan) (leads [] e)

  -- ranges
  with_none : (fronts backs : List (List X)) → length backs ≡ length fronts → concatenated fronts ≡ [] → each_with fronts backs ≡ backs
  with_none [] [] n e = refl
  with_none [] (b ∷ backs) n e = absurd (omega (arith, n))
  with_none (f ∷ fronts) [] n e = absurd (omega (arith, n))
  with_none ([] ∷ fronts) (b ∷ backs) n e = ap (λ l. b ∷ l) (with_none fronts backs (omega (arith, n)) e)
  with_none ((x ∷ f) ∷ fronts) (b ∷ backs) n e = let m = ap length e in absurd (omega (arith, m))

  first_with : (fronts backs : List (List X)) (i : ℕ) (x : X) (rest : List X) → length backs ≡ length fronts
      → get_or fronts i [] ≡ x ∷ rest → get_or (each_with fronts backs) i [] ≡ x ∷ (rest ++ get_or backs i [])
  first_with [] backs i x rest n e = let m = ap length e in absurd (omega (arith, m))
  first_with (f ∷ fronts) [] i x rest n e = absurd (omega (arith, n))
  first_with (f ∷ fronts) (b ∷ backs) zero x rest n e = ap (λ l. l ++ b) e
  first_with (f ∷ fronts) (b ∷ backs) (suc i) x rest n e = first_with fronts backs i x rest (omega (arith, n)) e

  set_with : (fronts backs : List (List X)) (i : ℕ) (rest : List X) → length backs ≡ length fronts → set (each_with fronts backs) i
      (rest ++ get_or backs i []) ≡ each_with (set fronts i rest) backs
  set_with [] backs i rest n = refl
  set_with (f ∷ fronts) [] i rest n = absurd (omega (arith, n))
  set_with (f ∷ fronts) (b ∷ backs) zero rest n = refl
  set_with (f ∷ fronts) (b ∷ backs) (suc i) rest n = ap (λ l. (f ++ b) ∷ l) (set_with fronts backs i rest (omega (arith, n)))

  above_with : (x : X) (fronts backs : List (List X)) → length backs ≡ length fronts → AreAbove lt x (concatenated fronts) → AreAbove lt x
      (concatenated backs) → AreAbove lt x (concatenated (each_with fronts backs))
  above_with x [] backs n h k = tt
  above_with x (f ∷ fronts) [] n h k = absurd (omega (arith, n))
  above_with x (f ∷ fronts) (b ∷ backs) n h k =
      above_both x (f ++ b) (concatenated (each_with fronts backs))
      (above_both x f b (above_front x f (concatenated fronts) h) (above_front x b (concatenated backs) k))
      (above_with x fronts backs (omega (arith, n)) (above_back x f (concatenated fronts) h) (above_back x b (concatenated backs) k))

  below_rest : (rows : List X) (x : X) (all rest : List X) → IsPermutation all (x ∷ rest) → AllByRecursion (λ y. AreAbove lt y rows) all
      → AllByRecursion (λ y. AreAbove lt y rows) (x ∷ rest)
  below_rest rows x all rest p h = recursion_from_All (λ y. AreAbove lt y rows) (x ∷ rest)
      (All-permutation (λ y. AreAbove lt y rows) all (x ∷ rest) p (All-from_recursion (λ y. AreAbove lt y rows) all h))

  pub planned_both : (fronts backs : List (List X)) (plan more : List ℕ) → length backs ≡ length fronts → AllByRecursion
      (λ x. AreAbove lt x (concatenated backs)) (concatenated fronts) → IsPlan lt fronts plan → IsPlan lt backs more → IsPlan lt
      (each_with fronts backs) (plan ++ more)
  planned_both fronts backs [] more n below h k = subst (λ l. IsPlan lt l more) (sym (with_none fronts backs n h)) k
  planned_both fronts backs (i ∷ plan) more n below h k = elim (get_or fronts i []) as
      (λ l. get_or fronts i [] ≡ l → IsLeast lt (concatenated fronts) l → IsPlan lt (set fronts i (drop 1 l)) plan → IsPlan lt
      (each_with fronts backs) (i ∷ (plan ++ more))) [
        | [] ↦ λ e f r. absurd f
        | x ∷ xs ↦ λ e f r.
            let put = first_with fronts backs i x xs n e in
            let rest = below_rest (concatenated backs) x (concatenated fronts) (concatenated (set fronts i xs))
            (taken fronts i x xs e) below in
            let next : set (each_with fronts backs) i (drop 1 (get_or (each_with fronts backs) i [])) ≡ each_with (set fronts i xs) backs =
            ap (λ l. set (each_with fronts backs) i (drop 1 l)) put ∙ set_with fronts backs i xs n in (
              subst (IsLeast lt (concatenated (each_with fronts backs))) (sym put) (above_with x fronts backs n f rest.0),
              subst (λ l. IsPlan lt l (plan ++ more)) (sym next)
                  (planned_both (set fronts i xs) backs plan more (n ∙ sym (length-set fronts i xs)) rest.1 r k),
            )
      ] refl h.0 h.1

  -- the rows that a plan of the fronts takes, and then those that one of the backs takes
  pub taken_both : (fronts backs : List (List X)) (plan more : List ℕ) → length backs ≡ length fronts → IsPlan lt fronts plan
      → taken_rows (each_with fronts backs) (plan ++ more) ≡ taken_rows fronts plan ++ taken_rows backs more
  taken_both fronts backs [] more n h = ap (λ l. taken_rows l more) (with_none fronts backs n h)
  taken_both fronts backs (i ∷ plan) more n h = elim (get_or fronts i []) as
      (λ l. get_or fronts i [] ≡ l → IsLeast lt (concatenated fronts) l → IsPlan lt (set fronts i (drop 1 l)) plan
      → taken_rows (each_with fronts backs) (i ∷ (plan ++ more))
      ≡ (take 1 l ++ taken_rows (set fronts i (drop 1 l)) plan) ++ taken_rows backs more) [
        | [] ↦ λ e f r. absurd f
        | x ∷ xs ↦ λ e f r.
            ap (λ l. take 1 l ++ taken_rows (set (each_with fronts backs) i (drop 1 l)) (plan ++ more)) (first_with fronts backs i x xs n e)
            ∙ ap (λ l. x ∷ taken_rows l (plan ++ more)) (set_with fronts backs i xs n)
            ∙ ap (λ l. x ∷ l) (taken_both (set fronts i xs) backs plan more (n ∙ sym (length-set fronts i xs)) r)
      ] refl h.0 h.1

  -- plans of the ranges, one behind the other, are a plan of the lists
  pub planned : {Z W : Type 0} (lists : List (List X)) (ranges : List (Vec (Bor (List X)) Z)) (plans : List (Vec ℕ W))
      → length plans ≡ length ranges → IsCut lt lists (map (λ r. lent r.items) ranges)
      → ((i : ℕ) (r : Vec (Bor (List X)) Z) (p : Vec ℕ W) → i < length ranges → r ≡ get_or ranges i r → p ≡ get_or plans i p → IsPlan lt
      (lent r.items) p.items) → IsPlan lt lists (rows_of plans)
  planned lists [] [] n cut each = cut
  planned lists [] (p ∷ plans) n cut each = absurd (omega (arith, n))
  planned lists (r ∷ ranges) [] n cut each = absurd (omega (arith, n))
  planned lists (r ∷ ranges) (p ∷ plans) n cut each =
      let off = cut.1 in
      subst (λ l. IsPlan lt l (p.items ++ rows_of plans)) (sym off.joined)
      (planned_both (lent r.items) cut.0 p.items (rows_of plans) off.len off.below (each 0 r p (omega arith) refl refl)
      (planned cut.0 ranges plans (omega (arith, n)) cut.2 (λ i s q h e f. each (suc i) s q (omega (arith, h)) e f)))

  -- the same of results of which none is missing
  pub planned_by : {Z W M : Type 0} (lists : List (List X)) (ranges : List (Vec (Bor (List X)) Z)) (results : List (Result (Vec ℕ W) M))
      (plans : List (Vec ℕ W)) → length results ≡ length ranges → results ≡ map Ok plans → IsCut lt lists (map (λ r. lent r.items) ranges)
      → ((i : ℕ) (r : Vec (Bor (List X)) Z) (s : Result (Vec ℕ W) M) → i < length ranges → r ≡ get_or ranges i r → s ≡ get_or results i s
      → IfOk s (λ p. IsPlan lt (lent r.items) p.items)) → IsPlan lt lists (rows_of plans)
  planned_by lists ranges results plans n are cut each =
      let count : length plans ≡ length ranges = sym (length-map plans Ok) ∙ sym (ap length are) ∙ n in
      planned lists ranges plans count cut
      (λ i r p h e f. each i r (Ok p) h e (ap Ok f ∙ sym (get_or-map Ok plans i p (Ok p) (omega (arith, h, count))) ∙ ap
      (λ l. get_or l i (Ok p)) (sym are)))
