-- Lists whose keys rise by 64, each from a number of its own below that.
use Rattle.std.proofs.Common.{◌≡◌, ◌≢◌, ℕ, zero, suc, ◌+◌, ◌*◌, ◌%◌, ◌<◌, false, List, [], ◌∷◌, ◌++◌, map, sym, ap, subst, ◌∙◌, arith}
use Rattle.std.proofs.Common.{append-nil}
use Rattle.std.specs.Prelude.{All}
use Rattle.std.specs.List.{AllByRecursion, IsDistinct, range_with_len}
use Rattle.std.specs.List.Sorted.{IsStrictlySortedBy}
use Rattle.std.specs.Ordering.{nat_cmp, eq_by_cmp}
use Rattle.std.specs.declared.cmp.Ordering.TheVariants.{Less}
use Rattle.std.proofs.lemmas.Bool.Decides.{nat_tests}
use Rattle.std.proofs.lemmas.Grind.{flat_map-append}
use Rattle.std.proofs.lemmas.List.{map-append}
use Rattle.std.proofs.lemmas.List.Elements.{All-nil, All-push}
use Rattle.std.proofs.lemmas.Map.Keys.{IsDistinct-head, IsDistinct-tail, IsDistinct-cons, IsDistinct-from_sorted}
use Rattle.std.proofs.lemmas.Nat.{mod-mul-add}
use Rattle.mr_base.specs.Leads.{nat_cmp_less}
use Rattle.mr_defs.specs.Partitions.{concatenated}

abbrev pub rungs : ℕ → ℕ → ℕ → List ℕ
rungs from a n = map (λ j. j * 64 + from) (range_with_len a n)

other : (x y : ℕ) → x ≢ y → eq_by_cmp nat_cmp x y ≡ false
other x y d = grind (arith, nat_tests)

later : (from a b n : ℕ) → a < b → AllByRecursion (λ y. nat_cmp (a * 64 + from) y ≡ Less) (rungs from b n)
later from a b zero h = tt
later from a b (suc n) h = (nat_cmp_less (a * 64 + from) (b * 64 + from) (omega (arith, h)), later from a (b + 1) n (omega (arith, h)))

rungs_rise : (from a n : ℕ) → IsStrictlySortedBy nat_cmp (rungs from a n)
unfolding IsStrictlySortedBy
rungs_rise from a zero = tt
rungs_rise from a (suc n) = (later from a (a + 1) n (omega arith), rungs_rise from (a + 1) n)

same_rest : (from a n : ℕ) → from < 64 → AllByRecursion (λ y. y % 64 ≡ from) (rungs from a n)
same_rest from a zero h = tt
same_rest from a (suc n) h = (mod-mul-add a 64 from h, same_rest from (a + 1) n h)

module _ (i : ℕ) where
  apart_each : (x : ℕ) (ys : List ℕ) → x % 64 < i → AllByRecursion (λ y. y % 64 ≡ i) ys → AllByRecursion
      (λ y. eq_by_cmp nat_cmp x y ≡ false) ys
  apart_each x [] h k = tt
  apart_each x (y ∷ ys) h k = (
    other x y (λ e. let m = ap (λ z. z % 64) e in let r = k.0 in absurd
        (omega (arith, h, m, r))),
    apart_each x ys h k.1,
  )

  apart_more : (x : ℕ) (xs ys : List ℕ) → AllByRecursion (λ y. eq_by_cmp nat_cmp x y ≡ false) xs → AllByRecursion
      (λ y. eq_by_cmp nat_cmp x y ≡ false) ys → AllByRecursion (λ y. eq_by_cmp nat_cmp x y ≡ false) (xs ++ ys)
  apart_more x [] ys h k = k
  apart_more x (y ∷ xs) ys h k = (h.0, apart_more x xs ys h.1 k)

  apart : (xs ys : List ℕ) → AllByRecursion (λ x. x % 64 < i) xs → AllByRecursion (λ y. y % 64 ≡ i) ys → IsDistinct (eq_by_cmp nat_cmp) xs
      → IsDistinct (eq_by_cmp nat_cmp) ys → IsDistinct (eq_by_cmp nat_cmp) (xs ++ ys)
  apart [] ys h k d e = e
  apart (x ∷ xs) ys h k d e =
      IsDistinct-cons (eq_by_cmp nat_cmp) x (xs ++ ys) (apart_more x xs ys (IsDistinct-head (eq_by_cmp nat_cmp) x xs d)
      (apart_each x ys h.0 k)) (apart xs ys h.1 k (IsDistinct-tail (eq_by_cmp nat_cmp) x xs d) e)

  below_more : (xs ys : List ℕ) → AllByRecursion (λ x. x % 64 < i) xs → AllByRecursion (λ y. y % 64 ≡ i) ys → AllByRecursion
      (λ x. x % 64 < i + 1) (xs ++ ys)
  below_more [] [] h k = tt
  below_more [] (y ∷ ys) h k = (let r = k.0 in omega (arith, r), below_more [] ys tt k.1)
  below_more (x ∷ xs) ys h k = (let r = h.0 in omega (arith, r), below_more xs ys h.1 k)

-- so many lists
pub record Ladders {A : Type 0} (lists : List (List (ℕ × A))) (i : ℕ) : Type 0 where
  pub ascend : All (λ list. IsStrictlySortedBy nat_cmp (map (λ row. row.0) list)) lists
  pub differ : IsDistinct (eq_by_cmp nat_cmp) (map (λ row. row.0) (concatenated lists))
  pub below : AllByRecursion (λ k. k % 64 < i) (map (λ row. row.0) (concatenated lists))

none_differ : IsDistinct (eq_by_cmp nat_cmp) []
unfolding IsDistinct
none_differ = tt

module _ {A : Type 0} where
  pub ladders_none : (lists : List (List (ℕ × A))) → lists ≡ [] → Ladders lists 0
  ladders_none lists e = subst (λ l. Ladders l 0) (sym e) (record {
    ascend = All-nil
        (λ list. IsStrictlySortedBy nat_cmp (map (λ row. row.0) list));
    differ = none_differ;
    below = tt;
  })

  pub ladders_more : (lists after : List (List (ℕ × A))) (list : List (ℕ × A)) (i n : ℕ) → i < 64 → map (λ row. row.0) list ≡ rungs i 0 n
      → after ≡ lists ++ list ∷ [] → Ladders lists i → Ladders after (i + 1)
  ladders_more lists after list i n h is e l =
      let keys = map-append (λ row. row.0) (concatenated lists) list in
      let all : map (λ row. row.0) (concatenated after) ≡ map (λ row. row.0) (concatenated lists) ++ rungs i 0 n =
      ap (λ k. map (λ row. row.0) (concatenated k)) e ∙ ap (map (λ row. row.0))
      (flat_map-append (λ k. k) lists (list ∷ []) ∙ ap (λ k. concatenated lists ++ k) (append-nil list)) ∙ keys ∙ ap
      (λ k. map (λ row. row.0) (concatenated lists) ++ k) is in
      record {
        ascend = subst (All (λ k. IsStrictlySortedBy nat_cmp (map (λ row. row.0) k))) (sym e)
            (All-push (λ k. IsStrictlySortedBy nat_cmp (map (λ row. row.0) k)) lists list l.ascend
            (subst (IsStrictlySortedBy nat_cmp) (sym is) (rungs_rise i 0 n)));
        differ = subst (IsDistinct (eq_by_cmp nat_cmp)) (sym all)
            (apart i (map (λ row. row.0) (concatenated lists)) (rungs i 0 n) l.below (same_rest i 0 n h) l.differ
            (IsDistinct-from_sorted nat_cmp (rungs i 0 n) (rungs_rise i 0 n)));
        below = subst (AllByRecursion (λ k. k % 64 < i + 1)) (sym all)
            (below_more i (map (λ row. row.0) (concatenated lists)) (rungs i 0 n) l.below (same_rest i 0 n h));
      }
