-- Each step of a pass keeps the rule.
use Rattle.std.proofs.Common.{◌≡◌, ◌≢◌, ℕ, zero, suc, ◌+◌, ◌-◌, ◌<◌, ◌≤◌, ◌==◌, ◌⊎◌, true, false, true≢false, cond, nat_lt, List, [], ◌∷◌}
use Rattle.std.proofs.Common.{◌++◌, set, get_or, drop, refl, sym, ap, ◌∙◌, arith, subst, ⊎_elim, inr}
use Rattle.std.proofs.lemmas.Bool.Decides.{nat_tests}
use mathlib.Core.Option.{some, some-ne-none}
use lib.ListN.{get_elem?}
use Rattle.atomic_table.proofs.Lists.{at_set, set_else}
use Rattle.crossbeam_deque.specs.Tasks.{Pushes, Takes as TakesAway, FindsFew, Forks, Merges}
use Rattle.mr_base.specs.Tasks.{times}
use Rattle.mr_base.specs.Totals.{total, Each}
use Rattle.mr_base.proofs.Times.{times-snoc, times-append}
use Rattle.mr_base.proofs.Totals.{total_set, total_member, total_le, total_whole, total_split, total_join, at_other, each_set, each_snoc}
use Rattle.mr_deques.specs.declared.view.View.{View}
use Rattle.mr_deques.specs.declared.view.About.{About}
use Rattle.mr_deques.specs.Lawful.{view, blank, first, about, count_from, marks, IsView, Begun, IsLawful, MayTake, Took, HasAll}

pub marks-append : (e : ℕ) (xs ys : List ℕ) → marks e (xs ++ ys) ≡ marks e xs + marks e ys
marks-append e [] ys = omega arith
marks-append e (x ∷ xs) ys = let a = marks-append e xs ys in omega (arith, a)

pub marks-snoc : (e : ℕ) (xs : List ℕ) (y : ℕ) → marks e (xs ++ y ∷ []) ≡ marks e xs + cond (nat_lt y e) 0 1
marks-snoc e xs y = let a = marks-append e xs (y ∷ []) in omega (arith, a)

count-snoc : (a n : ℕ) → count_from a n ++ (a + n) ∷ [] ≡ count_from a (suc n)
count-snoc a zero = ap (λ k. k ∷ []) (omega arith)
count-snoc a (suc n) =
    ap (λ l. a ∷ l) (subst (λ k. count_from (suc a) n ++ k ∷ [] ≡ count_from (suc a) (suc n)) (omega arith) (count-snoc (suc a) n))

count-empty : (a n : ℕ) → count_from a n ≡ [] → n ≡ 0
count-empty a zero e = refl
count-empty a (suc n) e = cc

count-head : (a n x : ℕ) (xs : List ℕ) → x ∷ xs ≡ count_from a n → (x ≡ a) × (0 < n) × (xs ≡ count_from (suc a) (n - 1))
count-head a zero x xs e = cc
count-head a (suc n) x xs e = (ap (λ l. get_or l 0 0) e, omega arith, ap (drop 1) e ∙ ap (count_from (suc a)) (omega arith))

positive : (n : ℕ) → n ≢ 0 → 0 < n
positive zero h = absurd (h refl)
positive (suc n) h = omega arith

-- a full view has a part of a deque that has begun
begun : (items : List ℕ) (views : List View) (id : ℕ) (v : View) → IsLawful items views → get_elem? views id ≡ some v → v.full ≡ true
    → (a : About) × (f : ℕ) × (pushed : ℕ) × Begun a f pushed items views × (v.about ≡ a) × (0 < v.weight)
begun items views id v h at full =
    ⊎_elim
    (λ idle. absurd (⊎_elim (λ e. true≢false (sym full ∙ ap (λ (u : View). u.full) e))
    (λ e. true≢false (sym full ∙ ap (λ (u : View). u.full) e)) (idle.1 id v at)))
    (λ b. let p : 0 < v.weight = positive v.weight (λ z. true≢false (sym full ∙ ((b.3.each id v at).4 z).1)) in
    (b.0, b.1, b.2, b.3, (b.3.each id v at).0 p, p))
    h

set_some : (l : List View) (i : ℕ) (a b : View) → get_elem? l i ≡ some a → get_elem? (set l i b) i ≡ some b
set_some [] i a b e = absurd (some-ne-none a (sym e))
set_some (x ∷ xs) zero a b e = refl
set_some (x ∷ xs) (suc i) a b e = set_some xs i a b e

-- the marks that have left are fewer than all
marks_few : (a : About) (f pushed : ℕ) (items : List ℕ) (views : List View) (id : ℕ) (v : View) → Begun a f pushed items views
    → get_elem? views id ≡ some v
    → ((v.weight ≡ 1) × (marks a.end v.list ≡ 0)) → f - a.end < a.passes
marks_few a f pushed items views id v b at may =
    let le = total_le (λ (u : View). marks a.end u.list) (λ (u : View). u.weight) (set views id blank)
    (each_set (λ (u : View). marks a.end u.list ≤ u.weight) views id blank (omega arith) (λ i u e. (b.each i u e).3)) in
    let m = total_set (λ (u : View). marks a.end u.list) views id v blank at in
    let w = total_set (λ (u : View). u.weight) views id v blank at in
    let bm = b.left_marks in let bw = b.weights in let m0 = may.0 in let m1 = may.1 in
    omega (arith, le, m, w, bm, bw, m0, m1)

module _ (port : ℕ) (v : View) (full : v.full ≡ true)
    (may : ((v.weight ≡ 1) × (marks v.about.end v.list ≡ 0)) ⊎ (v.weight ≡ v.about.passes)) where
  took : (x : ℕ) (items : List ℕ) (views : List View) → IsLawful (x ∷ items) views → get_elem? views port ≡ some v
      → (w : View) × IsLawful items (set views port w) × Took v (x ∷ []) w
  took x items views h at =
      let g = begun (x ∷ items) views port v h at full in
      let a : About = g.0 in let f : ℕ = g.1 in let pushed : ℕ = g.2 in
      let b : Begun a f pushed (x ∷ items) views = g.3 in
      let is : v.about ≡ a = g.4 in
      let w : View = view v.about v.pushed v.weight (v.list ++ x ∷ []) true in
      let c = count-head f (pushed - f) x items b.content in
      let xf : x ≡ f = c.0 in
      let more = c.1 in
      let mine = b.each port v at in
      let filled = mine.1 full in
      let mm = total_member (λ (u : View). marks a.end u.list) views port v at in
      let bm = b.left_marks in
      let fits : marks a.end (v.list ++ x ∷ []) ≤ v.weight =
      (let s = marks-snoc a.end v.list x in
      ⊎_elim (λ one. let m0 = one.0 in let m1 : marks a.end v.list ≡ 0 = ap (λ (u : About). marks u.end v.list) (sym is) ∙ one.1 in
      grind (arith, nat_tests, s, m1, m0))
      (λ all. let m0 : v.weight ≡ a.passes = all ∙ ap (λ (u : About). u.passes) is in
      grind (arith, nat_tests, s, m0, mm, bm, xf, more, filled)) may) in
      let p = g.5 in
      let o = b.order in
      let next : Begun a (f + 1) pushed items (set views port w) = record {
        range = b.range;
        order = ((let o0 = o.0 in omega (arith, o0)), omega (arith, more), o.2);
        content = c.2 ∙ (λ i. count_from ((let e : suc f ≡ f + 1 = omega arith in e) i)
            ((let e : (pushed - f) - 1 ≡ pushed - (f + 1) = omega arith in e) i));
        each = each_set (IsView a pushed) views port w
            (mine.0, (λ yes. mine.1 full), (λ p no. absurd (true≢false no)), fits, λ z. absurd (omega (arith, z, p))) b.each;
        weights = (let s = total_set (λ (u : View). u.weight) views port v w at in let p = b.weights in omega (arith, s, p));
        left = λ y. let s = total_set (λ (u : View). times y u.list) views port v w at in let t = times-snoc y v.list x in
            let l = b.left y in let o0 = o.0 in
            grind (arith, nat_tests, s, t, l, xf, o0);
        left_marks = (let s = total_set (λ (u : View). marks a.end u.list) views port v w at in let t = marks-snoc a.end v.list x in
            let l = b.left_marks in
            grind (arith, nat_tests, s, t, l, xf));
      } in
      let once : (y : ℕ) → times y w.list ≤ cond (nat_lt y v.about.start) 0 1 = λ y.
      let m = total_member (λ (u : View). times y u.list) (set views port w) port w (set_some views port v w at) in
      let l = next.left y in
      let st : v.about.start ≡ a.start = ap (λ (u : About). u.start) is in
      rw st (grind (arith, nat_tests, m, l)) in (
        w,
        inr (a, f + 1, pushed, next),
        (
          x,
          refl,
          refl,
          (let st = ap (λ (u : About). u.start) is in let o0 = o.0 in omega (arith, st, o0, xf)),
          (let en = ap (λ (u : About). u.end) is in let ps = ap (λ (u : About). u.passes) is in omega (arith, en, ps, xf, more, filled)),
          once,
        ),
      )

  pub takes_all : (then : List ℕ → View → Type 0) → ((x : ℕ) (w : View) → Took v (x ∷ []) w → then (x ∷ []) w)
      → TakesAway IsLawful port v 1 then
  takes_all then k [] items views some_ short h at = absurd (omega (arith, some_))
  takes_all then k (x ∷ []) items views some_ short h at = let r = took x items views h at in (r.0, r.1, k x r.0 r.2)
  takes_all then k (x ∷ y ∷ ys) items views some_ short h at = absurd (omega (arith, short))

  pub takes_ok : TakesAway IsLawful port v 1 (Took v)
  takes_ok [] items views some_ short h at = absurd (omega (arith, some_))
  takes_ok (x ∷ []) items views some_ short h at = took x items views h at
  takes_ok (x ∷ y ∷ ys) items views some_ short h at = absurd (omega (arith, short))

module _ (port : ℕ) (v : View) (full : v.full ≡ true) (may : (v.weight ≡ 1) × (marks v.about.end v.list ≡ 0)) where
  pub never_empty : (views : List View) → IsLawful [] views → get_elem? views port ≡ some v → ⊥
  never_empty views h at =
      let g = begun [] views port v h at full in
      let a : About = g.0 in let f : ℕ = g.1 in let pushed : ℕ = g.2 in
      let b : Begun a f pushed [] views = g.3 in
      let is : v.about ≡ a = g.4 in
      let may' : (v.weight ≡ 1) × (marks a.end v.list ≡ 0) = (may.0, ap (λ (u : About). marks u.end v.list) (sym is) ∙ may.1) in
      let few = marks_few a f pushed [] views port v b at may' in
      let none = count-empty f (pushed - f) (sym b.content) in
      let all = (b.each port v at).1 full in
      let o = b.order.1 in
      omega (arith, few, none, all, o)

-- where no total changes, the rule stays
kept : (a : About) (f pushed : ℕ) (items : List ℕ) (views after : List View) → Begun a f pushed items views → Each (IsView a pushed) after
    → total (λ (u : View). u.weight) after ≡ total (λ (u : View). u.weight) views
    → ((x : ℕ) → total (λ (u : View). times x u.list) after ≡ total (λ (u : View). times x u.list) views)
    → total (λ (u : View). marks a.end u.list) after ≡ total (λ (u : View). marks a.end u.list) views
    → Begun a f pushed items after
kept a f pushed items views after b each weights lists ms = record {
  range = b.range;
  order = b.order;
  content = b.content;
  each = each;
  weights = weights ∙ b.weights;
  left = λ x. lists x ∙ b.left x;
  left_marks = ms ∙ b.left_marks;
}

pub forks_ok : (port : ℕ) (v : View) → v.full ≡ true → 2 ≤ v.weight → v.list ≡ []
    → Forks IsLawful port v (view v.about v.pushed (v.weight - 1) v.list true) (view v.about v.pushed 1 [] true)
forks_ok port v full two none items views h at =
    let g = begun items views port v h at full in
    let a : About = g.0 in let f : ℕ = g.1 in let pushed : ℕ = g.2 in
    let b : Begun a f pushed items views = g.3 in
    let left : View = view v.about v.pushed (v.weight - 1) v.list true in
    let right : View = view v.about v.pushed 1 [] true in
    let all = (b.each port v at).1 full in
    let l : IsView a pushed left = (
      (λ p. g.4),
      (λ y. all),
      (λ p no. absurd (true≢false no)),
      (let z = ap (marks a.end) none in omega (arith, z)),
      λ z. absurd (omega (arith, z, two)),
    ) in
    let r : IsView a pushed right =
    ((λ p. g.4), (λ y. all), (λ p no. absurd (true≢false no)), omega arith, λ z. absurd (omega (arith, z))) in
    inr (
      a,
      f,
      pushed,
      kept a f pushed items views (set views port left ++ right ∷ []) b
          (each_snoc (IsView a pushed) (set views port left) right r (each_set (IsView a pushed) views port left l b.each))
          (total_split (λ (u : View). u.weight) views port v left right at (omega (arith, two)))
          (λ x. total_split (λ (u : View). times x u.list) views port v left right at (omega arith))
          (total_split (λ (u : View). marks a.end u.list) views port v left right at (omega arith)),
    )

pub merges_ok : (port : ℕ) (v : View) (other : ℕ) (w : View) → v.full ≡ true → w.full ≡ true
    → Merges IsLawful port v other w (view v.about v.pushed (v.weight + w.weight) (v.list ++ w.list) true) blank
merges_ok port v other w full full' items views h at ne at' =
    let g = begun items views port v h at full in
    let a : About = g.0 in let f : ℕ = g.1 in let pushed : ℕ = g.2 in
    let b : Begun a f pushed items views = g.3 in
    let p = g.5 in
    let both : View = view v.about v.pushed (v.weight + w.weight) (v.list ++ w.list) true in
    let was = at_other views port other both w ne at' in
    let mine = b.each port v at in let theirs = b.each other w was in
    let j : IsView a pushed both = (
      (λ q. g.4),
      (λ y. mine.1 full),
      (λ q no. absurd (true≢false no)),
      (let s = marks-append a.end v.list w.list in let x = mine.3 in let y = theirs.3 in omega (arith, s, x, y)),
      λ z. absurd (omega (arith, z, p)),
    ) in
    let s : IsView a pushed blank = (
      (λ q. absurd (omega (arith, q))),
      (λ y. absurd (true≢false (sym y))),
      (λ q no. absurd (omega (arith, q))),
      omega arith,
      λ z. (refl, refl),
    ) in
    inr (
      a,
      f,
      pushed,
      kept a f pushed items views (set (set views port both) other blank) b
          (each_set (IsView a pushed) (set views port both) other blank s (each_set (IsView a pushed) views port both j b.each))
          (total_join (λ (u : View). u.weight) views port v other w both blank at at' refl refl)
          (λ x. total_join (λ (u : View). times x u.list) views port v other w both blank at at' (times-append x v.list w.list) refl)
          (total_join (λ (u : View). marks a.end u.list) views port v other w both blank at at' (marks-append a.end v.list w.list) refl),
    )

-- who has every part and an end mark has all tasks
pub all_ok : (port : ℕ) (v : View) (items : List ℕ) (views : List View) → IsLawful items views → get_elem? views port ≡ some v → HasAll v
all_ok port v items views h at full whole mark x low high =
    let g = begun items views port v h at full in
    let a : About = g.0 in let f : ℕ = g.1 in let pushed : ℕ = g.2 in
    let b : Begun a f pushed items views = g.3 in
    let is : v.about ≡ a = g.4 in
    let wa : v.weight ≡ a.passes = whole ∙ ap (λ (u : About). u.passes) is in
    let mine : total (λ (u : View). times x u.list) views ≡ times x v.list =
    total_whole (λ (u : View). times x u.list) (λ (u : View). u.weight) views port v at (b.weights ∙ sym wa)
    (λ i u e z. ap (times x) ((b.each i u e).4 z).0) in
    let mm = total_member (λ (u : View). marks a.end u.list) views port v at in
    let ma : 1 ≤ marks a.end v.list = subst (λ (u : About). 1 ≤ marks u.end v.list) is mark in
    let bm = b.left_marks in
    let l = b.left x in
    let st = ap (λ (u : About). u.start) is in let en = ap (λ (u : About). u.end) is in
    grind (arith, nat_tests, mine, mm, ma, bm, l, st, en, low, high)

-- the first push
pub begins_ok : (port : ℕ) (a : About) → a.start ≤ a.end → 0 < a.passes
    → Pushes IsLawful port first (a.start ∷ []) (λ w. w ≡ view a (a.start + 1) a.passes [] (a.start + 1 == a.end + a.passes))
begins_ok port a le pos items views h at =
    let w : View = view a (a.start + 1) a.passes [] (a.start + 1 == a.end + a.passes) in
    ⊎_elim
    (λ idle.
    let rest = total_set (λ (u : View). u.weight) views port first blank at in
    let one = idle.2 in
    let each : Each (IsView a (a.start + 1)) (set views port w) = (λ j u e. ⊎_elim
    (λ (m : (j ≡ port) × (w ≡ u)). subst (IsView a (a.start + 1)) m.1 (
      (λ p. refl),
      (λ y. eq_of (a.start + 1) (a.end + a.passes) y),
      (λ p no. (refl, refl)),
      (omega arith),
      λ z. absurd (omega (arith, z, pos)),
    ))
    (λ (m : (j ≢ port) × (get_elem? views j ≡ some u)).
    let there : get_elem? (set views port blank) j ≡ some u = set_else views port j blank m.0 ∙ m.1 in
    let small = total_member (λ (y : View). y.weight) (set views port blank) j u there in
    let zero_ : u.weight ≡ 0 = omega (arith, small, rest, one) in
    let is : u ≡ blank =
    ⊎_elim (λ (y : u ≡ first). absurd (let k = ap (λ (z : View). z.weight) y in omega (arith, k, zero_))) (λ y. y) (idle.1 j u m.1) in
    subst (IsView a (a.start + 1)) (sym is) (
      (λ q. absurd (omega (arith, q))),
      (λ y. absurd (true≢false (sym y))),
      (λ q no. absurd (omega (arith, q))),
      omega arith,
      λ z. (refl, refl),
    ))
    (at_set views port j w u e)) in
    let empty : (F : View → ℕ) → F first ≡ 0 → F blank ≡ 0 → total F views ≡ 0 =
    λ F z0 z1. zeros F views (λ i u e. ⊎_elim (λ (y : u ≡ first). ap F y ∙ z0) (λ (y : u ≡ blank). ap F y ∙ z1) (idle.1 i u e)) in (
      w,
      inr (
        a,
        a.start,
        a.start + 1,
        record {
          range = (le, pos);
          order = (omega arith, omega arith, omega (arith, le, pos));
          content =
              ap (λ l. l ++ a.start ∷ []) idle.0 ∙ (λ i. count_from a.start ((let e : 1 ≡ (a.start + 1) - a.start = omega arith in e) i));
          each = each;
          weights = (let s = total_set (λ (u : View). u.weight) views port first w at in omega (arith, s, one));
          left = λ x. let s = total_set (λ (u : View). times x u.list) views port first w at in
              let z = empty (λ (u : View). times x u.list) refl refl in grind (arith, nat_tests, s, z);
          left_marks = (let s = total_set (λ (u : View). marks a.end u.list) views port first w at in
              let z = empty (λ (u : View). marks a.end u.list) refl refl in omega (arith, s, z, le));
        },
      ),
      refl,
    ))
    (λ b. absurd (let e = (b.3.each port first at).0 (omega arith) in let k = ap (λ (u : About). u.passes) e in let r = b.3.range.1 in
    omega (arith, k, r)))
    h
  where
    eq_of : (m n : ℕ) → (m == n) ≡ true → m ≡ n
    eq_of m n e = grind (arith, nat_tests, e)

    zeros : (F : View → ℕ) (vs : List View) → Each (λ u. F u ≡ 0) vs → total F vs ≡ 0
    zeros F [] k = refl
    zeros F (y ∷ ys) k = let p = k zero y refl in let q = zeros F ys (λ j u r. k (suc j) u r) in omega (arith, p, q)

-- a later push
pub puts_ok : (port : ℕ) (v : View) → 0 < v.weight → 0 < v.about.passes → v.full ≡ false → v.pushed < v.about.end + v.about.passes
    → Pushes IsLawful port v (v.pushed ∷ [])
    (λ w. w ≡ view v.about (v.pushed + 1) v.weight v.list (v.pushed + 1 == v.about.end + v.about.passes))
puts_ok port v p pos notfull lt items views h at =
    let w : View = view v.about (v.pushed + 1) v.weight v.list (v.pushed + 1 == v.about.end + v.about.passes) in
    ⊎_elim
    (λ idle. absurd (⊎_elim (λ (e : v ≡ first). let k = ap (λ (u : View). u.about.passes) e in omega (arith, k, pos))
    (λ (e : v ≡ blank). let k = ap (λ (u : View). u.weight) e in omega (arith, k, p)) (idle.1 port v at)))
    (λ g. let a : About = g.0 in let f : ℕ = g.1 in let pushed : ℕ = g.2 in
    let b : Begun a f pushed items views = g.3 in
    let mine = b.each port v at in
    let is : v.about ≡ a = mine.0 p in
    let own = mine.2 p notfull in
    let pv : v.pushed ≡ pushed = own.1 in
    let en = ap (λ (u : About). u.end) is in let ps = ap (λ (u : About). u.passes) is in
    let o = b.order in let o0 = o.0 in let o1 = o.1 in
    let each : Each (IsView a (pushed + 1)) (set views port w) = (λ j u e. ⊎_elim
    (λ (m : (j ≡ port) × (w ≡ u)). subst (IsView a (pushed + 1)) m.1 (
      (λ q. is),
      (λ y. let k = eq_of (v.pushed + 1) (v.about.end + v.about.passes) y in omega (arith, k, pv, en, ps)),
      (λ q no. (own.0, omega (arith, pv))),
      mine.3,
      λ z. absurd (omega (arith, z, p)),
    ))
    (λ (m : (j ≢ port) × (get_elem? views j ≡ some u)).
    let rest = total_set (λ (y : View). y.weight) views port v blank at in
    let there : get_elem? (set views port blank) j ≡ some u = set_else views port j blank m.0 ∙ m.1 in
    let small = total_member (λ (y : View). y.weight) (set views port blank) j u there in
    let bw = b.weights in let o2 = own.0 in
    let zero_ : u.weight ≡ 0 = omega (arith, small, rest, bw, o2) in
    let its = b.each j u m.1 in
    let nothing = its.4 zero_ in (
      (λ q. absurd (omega (arith, q, zero_))),
      (λ y. absurd (true≢false (sym y ∙ nothing.1))),
      (λ q no. absurd (omega (arith, q, zero_))),
      its.3,
      λ z. nothing,
    ))
    (at_set views port j w u e)) in (
      w,
      inr (
        a,
        f,
        pushed + 1,
        record {
          range = b.range;
          order = (o0, omega (arith, o1), omega (arith, lt, pv, en, ps));
          content = ap (λ l. l ++ v.pushed ∷ []) b.content
              ∙ (λ i. count_from f (pushed - f) ++ (let e : v.pushed ≡ f + (pushed - f) = omega (arith, pv, o1) in e) i ∷ [])
              ∙ count-snoc f (pushed - f) ∙ (λ i. count_from f ((let e : suc (pushed - f) ≡ (pushed + 1) - f = omega (arith, o1) in e) i));
          each = each;
          weights = (let s = total_set (λ (u : View). u.weight) views port v w at in let bw = b.weights in omega (arith, s, bw));
          left = λ x. let s = total_set (λ (u : View). times x u.list) views port v w at in let l = b.left x in omega (arith, s, l);
          left_marks =
              (let s = total_set (λ (u : View). marks a.end u.list) views port v w at in let l = b.left_marks in omega (arith, s, l));
        },
      ),
      refl,
    ))
    h
  where
    eq_of : (m n : ℕ) → (m == n) ≡ true → m ≡ n
    eq_of m n e = grind (arith, nat_tests, e)

-- the last pop
pub takes_last : (port : ℕ) (v : View) → v.full ≡ true → (((v.weight ≡ 1) × (marks v.about.end v.list ≡ 0)) ⊎ (v.weight ≡ v.about.passes))
    → TakesAway IsLawful port v 1 (λ xs w. HasAll v × Took v xs w)
takes_last port v full may [] items views some_ short h at = absurd (omega (arith, some_))
takes_last port v full may (x ∷ []) items views some_ short h at = let r = took port v full may x items views h at in
    (r.0, r.1, (all_ok port v (x ∷ items) views h at, r.2))
takes_last port v full may (x ∷ y ∷ ys) items views some_ short h at = absurd (omega (arith, short))

pub few_never : (port : ℕ) (v : View) → v.full ≡ true → ((v.weight ≡ 1) × (marks v.about.end v.list ≡ 0)) → (most : ℕ) → most ≡ 0
    → FindsFew IsLawful most port v ⊥
few_never port v full may most zero_ [] views few h at = never_empty port v full may views h at
few_never port v full may most zero_ (x ∷ xs) views few h at = absurd (omega (arith, few, zero_))

pub begins_at : (port : ℕ) (v : View) (a : About) (s : ℕ) → v ≡ first → s ≡ a.start → a.start ≤ a.end → 0 < a.passes
    → Pushes IsLawful port v (s ∷ []) (λ w. w ≡ view a (a.start + 1) a.passes [] (a.start + 1 == a.end + a.passes))
begins_at port v a s is at le pos =
    let F : View × ℕ → Type 0 =
    λ y. Pushes IsLawful port y.0 (y.1 ∷ []) (λ w. w ≡ view a (a.start + 1) a.passes [] (a.start + 1 == a.end + a.passes)) in
    subst F (λ i. (sym is i, sym at i)) (begins_ok port a le pos)

pub puts_at : (port : ℕ) (v : View) (x start end passes : ℕ) → v ≡ view (about start end passes) x passes [] (x == end + passes)
    → 0 < passes → x < end + passes
    → Pushes IsLawful port v (x ∷ []) (λ w. w ≡ view v.about (v.pushed + 1) v.weight v.list (v.pushed + 1 == v.about.end + v.about.passes))
puts_at port v x start end passes is pos lt =
    let u : View = view (about start end passes) x passes [] (x == end + passes) in
    let F : View → Type 0 = λ y. Pushes IsLawful port y (x ∷ [])
    (λ w. w ≡ view y.about (y.pushed + 1) y.weight y.list (y.pushed + 1 == y.about.end + y.about.passes)) in
    subst F (sym is) (puts_ok port u pos pos (let no : (x == end + passes) ≡ false = grind (arith, nat_tests, lt) in no) lt)

-- who took a task may take again
pub still_may : (v w : View) (x e : ℕ) → MayTake v → v.about.end ≡ e → Took v (x ∷ []) w → x < e → MayTake w × (w.about.end ≡ e)
still_may v w x e may at told lt =
    let y : ℕ = told.0 in
    let same : x ≡ y = ap (λ l. get_or l 0 0) told.1 in
    let is : w ≡ view v.about v.pushed v.weight (v.list ++ y ∷ []) true = told.2 in
    let u : View = view v.about v.pushed v.weight (v.list ++ y ∷ []) true in
    let s = marks-snoc v.about.end v.list y in
    let m = may.2 in
    let here : MayTake u × (u.about.end ≡ e) = ((refl, may.1, grind (arith, nat_tests, s, m, same, at, lt)), at) in
    let F : View → Type 0 = λ z. MayTake z × (z.about.end ≡ e) in
    subst F (sym is) here
