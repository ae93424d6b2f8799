-- Numbers of a list by how often each stands there: the least of them, and those that pass a test.
use Rattle.std.proofs.Common.{◌≡◌, ℕ, ℤ, ◌+◌, ◌≤◌, ◌==◌, Bool, true, false, not, cond, T, List, [], ◌∷◌, filter, Contains, All, Option}
use Rattle.std.proofs.Common.{Some, None, refl, sym, ap, subst, ◌∙◌, arith}
use Rattle.std.specs.Prelude.{count_by}
use Rattle.std.specs.List.{list_any, AllByRecursion}
use Rattle.std.specs.List.Sorted.{IsStrictlySortedBy}
use Rattle.std.specs.Ordering.{eq_by_cmp, is_lt, nat_cmp}
use Rattle.std.specs.Cmp.{nat_cmp_total, eq_by_cmp_equiv}
use Rattle.std.specs.declared.cmp.Ordering.TheVariants.{Less}
use Rattle.std.specs.FinMap.{is_sorted}
use Rattle.std.specs.FinMap.Entries.{below_all}
use Rattle.std.proofs.lemmas.Bool.Decides.{nat_tests}
use Rattle.std.proofs.lemmas.List.Elements.{All-head, All-tail}
use Rattle.std.proofs.lemmas.List.Sums.{sum_by-cons}
use Rattle.std.proofs.lemmas.Map.Views.{list_any-from_Contains}
use mathlib.Core.Logic.{dite}
use native.Mathlib.Decide.{ℕ_discrete}
use Rattle.mr_base.specs.Tasks.{times}
use Rattle.mr_defs.specs.Commutative.{joined}
use Rattle.mr_defs.specs.Keyed.{least, lesser}
use Rattle.mr_defs.proofs.Ascending.{marked}
use Rattle.mr_container.proofs.Orders.{is_Less, both_first, both_second}
use Rattle.mr_common.specs.Lawful.{keys}
use Rattle.mr_phase.proofs.Folding.{both}

pub count_is : (k : ℕ) (xs : List ℕ) → count_by (eq_by_cmp nat_cmp k) xs ≡ times k xs
count_is k [] = refl
count_is k (y ∷ ys) =
    let c = sum_by-cons (λ z. cond (eq_by_cmp nat_cmp k z) 1 0) y ys in
    let e = count_is k ys in
    grind (arith, nat_tests, c, e)

pub count_keys : (k : ℕ) (ps : List (ℕ × ℤ)) → count_by (λ w. eq_by_cmp nat_cmp k w.0) ps ≡ times k (keys ps)
count_keys k [] = refl
count_keys k (p ∷ ps) =
    let c = sum_by-cons (λ (w : ℕ × ℤ). cond (eq_by_cmp nat_cmp k w.0) 1 0) p ps in
    let e = count_keys k ps in
    grind (arith, nat_tests, c, e)

pub any_times : (k : ℕ) (ks : List ℕ) → list_any (eq_by_cmp nat_cmp k) ks ≡ not (times k ks == 0)
any_times k [] = refl
any_times k (x ∷ xs) = let e = any_times k xs in grind (arith, nat_tests, e)

-- what passes a test
pub times-filter : (p : ℕ → Bool) (k : ℕ) (ks : List ℕ) → times k (filter p ks) ≡ cond (p k) (times k ks) 0
times-filter p k [] = elim (p k) as (λ b. times k [] ≡ cond b (times k []) 0) [ true ↦ refl | false ↦ refl ]
times-filter p k (x ∷ xs) =
    let r = times-filter p k xs in
    elim (p x) as (λ b. p x ≡ b → times k (cond b (x ∷ filter p xs) (filter p xs)) ≡ cond (p k) (cond (x == k) 1 0 + times k xs) 0) [
      | true ↦ λ e. dite (ℕ_discrete x k)
          (λ same. let f : p k ≡ true = ap p (sym same) ∙ e in grind (arith, nat_tests, r, f, same))
          (λ other. grind (arith, nat_tests, r, other))
      | false ↦ λ e. dite (ℕ_discrete x k)
          (λ same. let f : p k ≡ false = ap p (sym same) ∙ e in grind (arith, nat_tests, r, f, same))
          (λ other. grind (arith, nat_tests, r, other))
    ] refl

-- a number that stands in a list
pub contained : (k : ℕ) (ks : List ℕ) → Contains ks k → 1 ≤ times k ks
contained k ks c =
    let a = any_times k ks in
    let b = list_any-from_Contains (eq_by_cmp_equiv nat_cmp_total) k ks c in
    grind (arith, nat_tests, a, b)

pub contained_each : (k : ℕ) (ks rs : List ℕ) → All (Contains ks) rs → 1 ≤ times k rs → 1 ≤ times k ks
contained_each k ks [] all h = absurd (omega (arith, h))
contained_each k ks (r ∷ rs) all h =
    dite (ℕ_discrete r k)
    (λ same. subst (λ q. 1 ≤ times q ks) same (contained r ks (All-head (Contains ks) r rs all)))
    (λ other. contained_each k ks rs (All-tail (Contains ks) r rs all) (grind (arith, nat_tests, h, other)))

-- in a list that ascends a number stands at most once
none_below : (x : ℕ) (ks : List ℕ) → T (below_all nat_cmp x (marked ks)) → times x ks ≡ 0
none_below x [] h = refl
none_below x (y ∷ ys) h =
    let less = is_Less (nat_cmp x y) (both_first (is_lt (nat_cmp x y)) (below_all nat_cmp x (marked ys)) h) in
    let r = none_below x ys (both_second (is_lt (nat_cmp x y)) (below_all nat_cmp x (marked ys)) h) in
    grind (arith, nat_tests, less, r)

pub at_most_once : (k : ℕ) (ks : List ℕ) → T (is_sorted nat_cmp (marked ks)) → times k ks ≤ 1
at_most_once k [] s = omega arith
at_most_once k (x ∷ xs) s =
    let r = at_most_once k xs (both_second (below_all nat_cmp x (marked xs)) (is_sorted nat_cmp (marked xs)) s) in
    dite (ℕ_discrete x k)
    (λ same. let z : times k xs
    ≡ 0 = subst (λ q. times q xs ≡ 0) same
    (none_below x xs (both_first (below_all nat_cmp x (marked xs)) (is_sorted nat_cmp (marked xs)) s)) in grind (arith, nat_tests, z, same))
    (λ other. grind (arith, nat_tests, r, other))

-- numbers that ascend, as entries
above : (x : ℕ) (ks : List ℕ) → AllByRecursion (λ y. nat_cmp x y ≡ Less) ks → T (below_all nat_cmp x (marked ks))
above x [] h = tt
above x (y ∷ ys) h = both _ _ (subst (λ r. T (is_lt r)) (sym h.0) tt) (above x ys h.1)

pub sorted_entries : (ks : List ℕ) → IsStrictlySortedBy nat_cmp ks → T (is_sorted nat_cmp (marked ks))
unfolding IsStrictlySortedBy
sorted_entries [] s = tt
sorted_entries (k ∷ ks) s = both _ _ (above k ks s.0) (sorted_entries ks s.1)

-- the least is one of them, and none is less
abbrev IsLeastOf : List ℕ → Option ℕ → Type 0
IsLeastOf xs None = (k : ℕ) → times k xs ≡ 0
IsLeastOf xs (Some m) = (1 ≤ times m xs) × ((k : ℕ) → 1 ≤ times k xs → m ≤ k)

least_is : (xs : List ℕ) → IsLeastOf xs (least nat_cmp xs)
least_is [] = λ k. refl
least_is (x ∷ xs) = more (least nat_cmp xs) (least_is xs)
  where
    more : (o : Option ℕ) → IsLeastOf xs o → IsLeastOf (x ∷ xs) (joined (lesser nat_cmp) (Some x) o)
    more None h = (grind (arith, nat_tests), λ k one. let z = h k in grind (arith, nat_tests, one, z))
    more (Some m) h =
        let first = h.0 in (
          grind (arith, nat_tests, first),
          λ k one. dite (ℕ_discrete x k)
              (λ same. grind (arith, nat_tests, same))
              (λ other. let r = h.1 k (grind (arith, nat_tests, one, other)) in grind (arith, nat_tests, r)),
        )

pub none_least : (xs : List ℕ) → least nat_cmp xs ≡ None → (k : ℕ) → times k xs ≡ 0
none_least xs e = subst (IsLeastOf xs) e (least_is xs)

-- lists of the same numbers have the same least
pub same_least : (xs ys : List ℕ) → ((k : ℕ) → 1 ≤ times k xs → 1 ≤ times k ys) → ((k : ℕ) → 1 ≤ times k ys → 1 ≤ times k xs)
    → least nat_cmp xs ≡ least nat_cmp ys
same_least xs ys to from = by (least nat_cmp xs) (least nat_cmp ys) (least_is xs) (least_is ys)
  where
    by : (o p : Option ℕ) → IsLeastOf xs o → IsLeastOf ys p → o ≡ p
    by None None h k = refl
    by None (Some m) h k = let z = h m in let one = from m k.0 in absurd (omega (arith, z, one))
    by (Some m) None h k = let z = k m in let one = to m h.0 in absurd (omega (arith, z, one))
    by (Some m) (Some n) h k = let a = h.1 n (from n k.0) in let b = k.1 m (to m h.0) in ap (λ q. Some q) (omega (arith, a, b))
