-- Each step of a pass keeps the rule.
use Rattle.std.proofs.Common.{◌≡◌, ◌≢◌, ℕ, zero, suc, ◌+◌, ◌-◌, ◌*◌, ◌/◌, ◌%◌, ◌^◌, ◌<◌, ◌≤◌, ◌==◌, ◌⊎◌, ◌&&◌, cond, nat_lt, nat_le, List}
use Rattle.std.proofs.Common.{[], ◌∷◌, ◌++◌, set, get_or, length, length-set, slice_index, refl, sym, ap, ◌∙◌, arith, subst, ⊎_elim, inl}
use Rattle.std.proofs.Common.{inr}
use Rattle.std.proofs.lemmas.Bool.Decides.{nat_tests}
use Rattle.std.proofs.lemmas.List.{get_or-set_same, get_or-set_other}
use Rattle.std.proofs.lemmas.List.Sums.{sum_by_push, sum_by-append}
use Rattle.std.proofs.Math.Nat.{mod-eq_of_lt}
use mathlib.Core.Option.{some, some-injective, some-ne-none}
use mathlib.Core.Logic.{dite}
use native.Mathlib.Decide.{dec_lt, dec_le, ℕ_discrete}
use lib.ListN.{get_elem?}
use Rattle.mr_defs.specs.Tasks.{most_tasks}
use Rattle.mr_base.specs.Tasks.{times, start_of, IsApartBelow}
use Rattle.mr_base.specs.Totals.{total, Each}
use Rattle.mr_base.proofs.Times.{times-snoc, times-append}
use Rattle.mr_base.proofs.Totals.{total_set, total_member, total_le, total_whole, total_split, total_join, at_other, each_set, each_snoc}
use Rattle.mr_base.proofs.Starts.{start_below, start_up, locate, apart}
use Rattle.mr_claims.specs.declared.view.View.{View}
use Rattle.mr_claims.specs.Lawful.{view, end_of, word_of, queue_of, next_of, within, IsView, IsNext, IsLawful, Claimed}

pub queue_of-word_of : (q : ℕ) → queue_of (word_of q) ≡ q
queue_of-word_of q = omega arith

set_some : (l : List View) (i : ℕ) (a b : View) → get_elem? l i ≡ some a → get_elem? (set l i b) i ≡ some b
set_some [] i a b e = absurd (some-ne-none a (sym e))
set_some (x ∷ xs) zero a b e = refl
set_some (x ∷ xs) (suc i) a b e = set_some xs i a b e

next_of-set_same : (words : List ℕ) (q n : ℕ) → word_of q < length words → next_of (set words (word_of q) n) q ≡ n
next_of-set_same words q n room = get_or-set_same words (word_of q) n 0 room

next_of-set_other : (words : List ℕ) (q r n : ℕ) → r ≢ q → next_of (set words (word_of q) n) r ≡ next_of words r
next_of-set_other words q r n ne = get_or-set_other words (word_of q) (word_of r) n 0 (λ e. ne (omega (arith, e)))

-- 1 where y is from a up to but not including b
abbrev one_within : ℕ → ℕ → ℕ → ℕ
one_within a b y = cond (nat_le a y && nat_lt y b) 1 0

within-snoc : (a b : ℕ) (xs : List ℕ) (y : ℕ) → within a b (xs ++ y ∷ []) ≡ within a b xs + one_within a b y
within-snoc a b xs y = sum_by_push (one_within a b) xs y

within-append : (a b : ℕ) (xs ys : List ℕ) → within a b (xs ++ ys) ≡ within a b xs + within a b ys
within-append a b xs ys = sum_by-append (one_within a b) xs ys

one_inside : (a y b : ℕ) → a ≤ y → y < b → one_within a b y ≡ 1
one_inside a y b from below = grind (arith, nat_tests, from, below)

none_inside : (a y b : ℕ) → (a ≤ y → y < b → ⊥) → one_within a b y ≡ 0
none_inside a y b out =
    dite (dec_lt y b)
    (λ below. dite (dec_le a y) (λ from. absurd (out from below)) (λ no. grind (arith, nat_tests, no)))
    (λ no. grind (arith, nat_tests, no))

-- no view has a task twice
pub few : (t n : ℕ) (words : List ℕ) (views : List View) (id : ℕ) (v : View) → IsLawful t n words views → get_elem? views id ≡ some v
    → IsApartBelow t v.given
few t n words views id v h at x =
    let m = total_member (λ (u : View). times x u.given) views id v at in
    dite (dec_lt x t)
    (λ lt. let o = locate t n x h.small.1 lt in
    let g = h.given o.0 x o.1 o.2 o.3 in
    grind (arith, nat_tests, m, g, lt))
    (λ ge. let b = h.beyond x (omega (arith, ge)) in grind (arith, nat_tests, m, b, ge))

ends_few : (t n : ℕ) (words : List ℕ) (views : List View) → IsLawful t n words views → (q : ℕ)
    → total (λ (v : View). times q v.ends) views ≤ n
ends_few t n words views h q =
    let a = total_le (λ (v : View). times q v.ends) (λ (v : View). v.weight) views (λ i v e. (h.each i v e).1 q) in
    let b = h.weights in omega (arith, a, b)

-- a next number passes the end by no more than there are passes
pub next_near_end : (t n : ℕ) (words : List ℕ) (views : List View) → IsLawful t n words views → (q : ℕ) → q < n
    → next_of words q ≤ end_of t n q + 32
next_near_end t n words views h q lt =
    let w = h.next q lt in
    let e = ends_few t n words views h q in
    let few_passes = h.small.2 in
    dite (dec_lt (end_of t n q) (next_of words q))
    (λ past. let is = w.2 (omega (arith, past)) in omega (arith, is, e, few_passes))
    (λ no. omega (arith, no))

-- so it does not wrap
no_wrap : (t n : ℕ) (words : List ℕ) (views : List View) → IsLawful t n words views → (q : ℕ) → q < n
    → (next_of words q + 1) % 2 ^ 64 ≡ next_of words q + 1
no_wrap t n words views h q lt =
    let near = next_near_end t n words views h q lt in
    let inside = start_below t n (q + 1) h.small.1 (omega (arith, lt)) in
    let few_tasks = h.small.0 in
    mod-eq_of_lt (omega (arith, near, inside, few_tasks))

-- the tasks of two queues differ
other : (t n q r x y : ℕ) → 0 < n → q ≢ r → start_of t n q ≤ x → x < end_of t n q → start_of t n r ≤ y → y < end_of t n r → x ≢ y
other t n q r x y pos ne a b c d same =
    dite (dec_lt q r)
    (λ lt. apart t n q r x pos lt b (omega (arith, same, c)))
    (λ no. apart t n r q y pos (let m : (q < r) ⊎ (r < q) = parts q r ne in ⊎_elim (λ k. absurd (no k)) (λ k. k) m) d
    (omega (arith, same, a)))
  where
    parts : (a b : ℕ) → a ≢ b → (a < b) ⊎ (b < a)
    parts a b ne = dite (dec_lt a b) inl (λ no. dite (dec_lt b a) inr (λ more. absurd (ne (omega (arith, no, more)))))

module _ (t n q id : ℕ) (v : View) (lt : q < n) (one : v.weight ≡ 1) (none : times q v.ends ≡ 0) (words : List ℕ) (views : List View)
    (h : IsLawful t n words views) (at : get_elem? views id ≡ some v) where
  room : word_of q < length words
  room = let l = h.small.3 in omega (arith, l, lt)

  -- a task is given
  task_ok : next_of words q < end_of t n q
      → IsLawful t n (set words (word_of q) (next_of words q + 1))
      (set views id (view v.tasks v.queues v.weight (v.given ++ next_of words q ∷ []) v.ends))
  task_ok below =
      let m : ℕ = next_of words q in
      let after : List ℕ = set words (word_of q) (m + 1) in
      let w : View = view v.tasks v.queues v.weight (v.given ++ m ∷ []) v.ends in
      let mine = h.each id v at in
      let wq = h.next q lt in
      let here = next_of-set_same words q (m + 1) room in
      record {
        small = (h.small.0, h.small.1, h.small.2, length-set words (word_of q) (m + 1) ∙ h.small.3);
        each = each_set (IsView t n) views id w (mine.0, mine.1, λ z. absurd (omega (arith, z, one))) h.each;
        weights = (let s = total_set (λ (u : View). u.weight) views id v w at in let p = h.weights in omega (arith, s, p));
        given = λ r x rl a b.
            let s = total_set (λ (u : View). times x u.given) views id v w at in
            let c = times-snoc x v.given m in
            let g = h.given r x rl a b in
            dite (ℕ_discrete r q)
            (λ same. let k : next_of after r ≡ m + 1 = subst (λ j. next_of after j ≡ m + 1) (sym same) here in
            let g' : total (λ (u : View). times x u.given) views ≡ cond (nat_lt x m) 1 0 =
            subst (λ j. total (λ (u : View). times x u.given) views ≡ cond (nat_lt x (next_of words j)) 1 0) same g in
            rw k (grind (arith, nat_tests, s, c, g')))
            (λ ne. let k = next_of-set_other words q r (m + 1) ne in
            let off = other t n q r m x h.small.1 (λ e. ne (sym e)) wq.0 below a b in
            rw k (grind (arith, nat_tests, s, c, g, off)));
        beyond = λ x past.
            let s = total_set (λ (u : View). times x u.given) views id v w at in
            let c = times-snoc x v.given m in
            let g = h.beyond x past in
            let e = start_below t n (q + 1) h.small.1 (omega (arith, lt)) in
            grind (arith, nat_tests, s, c, g, e, below, past);
        counted = λ r rl.
            let a : ℕ = start_of t n r in
            let b : ℕ = end_of t n r in
            let s = total_set (λ (u : View). within a b u.given) views id v w at in
            let c = within-snoc a b v.given m in
            let e = total_set (λ (u : View). times r u.ends) views id v w at in
            let g = h.counted r rl in
            dite (ℕ_discrete r q)
            (λ same. let k : next_of after r ≡ m + 1 = subst (λ j. next_of after j ≡ m + 1) (sym same) here in
            let k' : next_of words r ≡ m = ap (next_of words) same in
            let i : one_within a b m
            ≡ 1 = subst (λ j. one_within (start_of t n j) (end_of t n j) m ≡ 1) (sym same)
            (one_inside (start_of t n q) m (end_of t n q) wq.0 below) in
            omega (arith, s, c, e, g, k, k', i))
            (λ ne. let k = next_of-set_other words q r (m + 1) ne in
            let i = none_inside a m b (λ from to. other t n q r m m h.small.1 (λ x. ne (sym x)) wq.0 below from to refl) in
            omega (arith, s, c, e, g, k, i));
        next = λ r rl.
            let s = total_set (λ (u : View). times r u.ends) views id v w at in
            let g = h.next r rl in
            let still : total (λ (u : View). times r u.ends) (set views id w) ≡ total (λ (u : View). times r u.ends) views =
            omega (arith, s) in
            dite (ℕ_discrete r q)
            (λ same. subst (λ j. IsNext (start_of t n j) (end_of t n j) (next_of after j)
            (total (λ (u : View). times j u.ends) (set views id w))) (sym same)
            (let sq = total_set (λ (u : View). times q u.ends) views id v w at in
            let z = wq.1 (omega (arith, below)) in
            rw here (
              (let f = wq.0 in omega (arith, f)),
              (λ le. omega (arith, sq, z)),
              λ ge. omega (arith, sq, z, ge, below),
            )))
            (λ ne. rw (next_of-set_other words q r (m + 1) ne, still) g);
      }

  -- the end is seen
  end_ok : end_of t n q ≤ next_of words q
      → IsLawful t n (set words (word_of q) (next_of words q + 1))
      (set views id (view v.tasks v.queues v.weight v.given (v.ends ++ q ∷ [])))
  end_ok past =
      let m : ℕ = next_of words q in
      let after : List ℕ = set words (word_of q) (m + 1) in
      let w : View = view v.tasks v.queues v.weight v.given (v.ends ++ q ∷ []) in
      let mine = h.each id v at in
      let wq = h.next q lt in
      let here = next_of-set_same words q (m + 1) room in
      let cq : times q (v.ends ++ q ∷ []) ≡ 1 = (let c' = times-snoc q v.ends q in grind (arith, nat_tests, c', none)) in
      record {
        small = (h.small.0, h.small.1, h.small.2, length-set words (word_of q) (m + 1) ∙ h.small.3);
        each = each_set (IsView t n) views id w (
          mine.0,
          (λ r. let c = times-snoc r v.ends q in let b = mine.1 r in
              dite (ℕ_discrete r q)
              (λ same. let z : times r v.ends ≡ 0 = subst (λ j. times j v.ends ≡ 0) (sym same) none in grind (arith, nat_tests, c, z, one))
              (λ ne. grind (arith, nat_tests, c, b, ne))),
          λ z. absurd (omega (arith, z, one)),
        ) h.each;
        weights = (let s = total_set (λ (u : View). u.weight) views id v w at in let p = h.weights in omega (arith, s, p));
        given = λ r x rl a b.
            let s = total_set (λ (u : View). times x u.given) views id v w at in
            let g = h.given r x rl a b in
            dite (ℕ_discrete r q)
            (λ same. let k : next_of after r ≡ m + 1 = subst (λ j. next_of after j ≡ m + 1) (sym same) here in
            let g' : total (λ (u : View). times x u.given) views ≡ cond (nat_lt x m) 1 0 =
            subst (λ j. total (λ (u : View). times x u.given) views ≡ cond (nat_lt x (next_of words j)) 1 0) same g in
            let b' : x < end_of t n q = subst (λ j. x < end_of t n j) same b in
            rw k (grind (arith, nat_tests, s, g', b', past)))
            (λ ne. let k = next_of-set_other words q r (m + 1) ne in rw k (omega (arith, s, g)));
        beyond = λ x out.
            let s = total_set (λ (u : View). times x u.given) views id v w at in
            let g = h.beyond x out in
            omega (arith, s, g);
        counted = λ r rl.
            let s = total_set (λ (u : View). within (start_of t n r) (end_of t n r) u.given) views id v w at in
            let e = total_set (λ (u : View). times r u.ends) views id v w at in
            let c = times-snoc r v.ends q in
            let g = h.counted r rl in
            dite (ℕ_discrete r q)
            (λ same. let k : next_of after r ≡ m + 1 = subst (λ j. next_of after j ≡ m + 1) (sym same) here in
            let k' : next_of words r ≡ m = ap (next_of words) same in
            let i : ◌≡◌ {A = ℕ} (cond (q == r) 1 0) 1 = grind (arith, nat_tests, same) in
            omega (arith, s, c, e, g, k, k', i))
            (λ ne. let k = next_of-set_other words q r (m + 1) ne in
            let i : ◌≡◌ {A = ℕ} (cond (q == r) 1 0) 0 = grind (arith, nat_tests, ne) in
            omega (arith, s, c, e, g, k, i));
        next = λ r rl.
            let s = total_set (λ (u : View). times r u.ends) views id v w at in
            let c = times-snoc r v.ends q in
            let g = h.next r rl in
            dite (ℕ_discrete r q)
            (λ same. subst (λ j. IsNext (start_of t n j) (end_of t n j) (next_of after j)
            (total (λ (u : View). times j u.ends) (set views id w))) (sym same)
            (let sq = total_set (λ (u : View). times q u.ends) views id v w at in
            let is = wq.2 past in
            rw here (
              (let f = wq.0 in omega (arith, f)),
              (λ le. absurd (omega (arith, le, past))),
              λ ge. omega (arith, sq, cq, is, none),
            )))
            (λ ne. let still : total (λ (u : View). times r u.ends) (set views id w)
            ≡ total (λ (u : View). times r u.ends) views = grind (arith, nat_tests, s, c, ne) in
            rw (next_of-set_other words q r (m + 1) ne, still) g);
      }

  pub claim_ok : (w : View) × IsLawful t n (set words (word_of q) ((next_of words q + 1) % 2 ^ 64)) (set views id w)
      × Claimed q v (next_of words q) w
  claim_ok =
      let m : ℕ = next_of words q in
      let after : List ℕ = set words (word_of q) (m + 1) in
      let about = (h.each id v at).0 (omega (arith, one)) in
      let is_end : end_of v.tasks v.queues q ≡ end_of t n q = rw (about.0, about.1) refl in
      let here : (w : View) → get_elem? (set views id w) id ≡ some w = λ w. set_some views id v w at in
      rw (no_wrap t n words views h q lt) (
      dite (dec_lt m (end_of t n q))
      (λ below. let w : View = view v.tasks v.queues v.weight (v.given ++ m ∷ []) v.ends in
      let next = task_ok below in
      let mine : IsApartBelow v.tasks w.given = rw about.0 (few t n after (set views id w) id w next (here w)) in
      (w, next, (mine, inl (rw is_end below, refl))))
      (λ no. let w : View = view v.tasks v.queues v.weight v.given (v.ends ++ q ∷ []) in
      let past : end_of t n q ≤ m = omega (arith, no) in
      let next = end_ok past in
      let mine : IsApartBelow v.tasks w.given = rw about.0 (few t n after (set views id w) id w next (here w)) in
      (w, next, (mine, inr (rw is_end past, refl)))))

-- where no total changes, the rule stays
kept : (t n : ℕ) (words : List ℕ) (views after : List View) → IsLawful t n words views → Each (IsView t n) after
    → total (λ (u : View). u.weight) after ≡ total (λ (u : View). u.weight) views
    → ((x : ℕ) → total (λ (u : View). times x u.given) after ≡ total (λ (u : View). times x u.given) views)
    → ((a b : ℕ) → total (λ (u : View). within a b u.given) after ≡ total (λ (u : View). within a b u.given) views)
    → ((q : ℕ) → total (λ (u : View). times q u.ends) after ≡ total (λ (u : View). times q u.ends) views)
    → IsLawful t n words after
kept t n words views after h each weights given counts ends = record {
  small = h.small;
  each = each;
  weights = weights ∙ h.weights;
  given = λ q x lt a b. given x ∙ h.given q x lt a b;
  beyond = λ x past. given x ∙ h.beyond x past;
  counted = λ q lt. rw (counts (start_of t n q) (end_of t n q), ends q) (h.counted q lt);
  next = λ q lt. rw (ends q) (h.next q lt);
}

pub cut_ok : (t n id : ℕ) (v : View) → 2 ≤ v.weight → v.given ≡ [] → v.ends ≡ [] → (words : List ℕ) (views : List View)
    → IsLawful t n words views → get_elem? views id ≡ some v
    → IsLawful t n words (set views id (view v.tasks v.queues (v.weight - 1) v.given v.ends) ++ view v.tasks v.queues 1 [] [] ∷ [])
cut_ok t n id v two given ends words views h at =
    let left : View = view v.tasks v.queues (v.weight - 1) v.given v.ends in
    let right : View = view v.tasks v.queues 1 [] [] in
    let about = (h.each id v at).0 (omega (arith, two)) in
    let l : IsView t n left = ((λ some. about), (λ q. rw ends (omega arith)), λ z. given) in
    let r : IsView t n right = ((λ some. about), (λ q. omega arith), λ z. refl) in
    kept t n words views (set views id left ++ right ∷ []) h
    (each_snoc (IsView t n) (set views id left) right r (each_set (IsView t n) views id left l h.each))
    (total_split (λ (u : View). u.weight) views id v left right at (omega (arith, two)))
    (λ x. total_split (λ (u : View). times x u.given) views id v left right at (omega arith))
    (λ a b. total_split (λ (u : View). within a b u.given) views id v left right at (omega arith))
    (λ q. total_split (λ (u : View). times q u.ends) views id v left right at (omega arith))

pub join_ok : (t n id : ℕ) (v : View) (other : ℕ) (w : View) → 0 < v.weight → (words : List ℕ) (views : List View)
    → IsLawful t n words views → get_elem? views id ≡ some v
    → ¬ (other ≡ id)
    → get_elem? (set views id (view v.tasks v.queues (v.weight + w.weight) (v.given ++ w.given) (v.ends ++ w.ends))) other ≡ some w
    → IsLawful t n words
    (set (set views id (view v.tasks v.queues (v.weight + w.weight) (v.given ++ w.given) (v.ends ++ w.ends))) other (view 0 0 0 [] []))
join_ok t n id v other w some_weight words views h at ne at' =
    let both : View = view v.tasks v.queues (v.weight + w.weight) (v.given ++ w.given) (v.ends ++ w.ends) in
    let spent : View = view 0 0 0 [] [] in
    let was = at_other views id other both w ne at' in
    let mine = h.each id v at in
    let theirs = h.each other w was in
    let b : IsView t n both = (
      (λ some. mine.0 some_weight),
      (λ q. let e = times-append q v.ends w.ends in let x = mine.1 q in let y = theirs.1 q in omega (arith, e, x, y)),
      λ z. absurd (omega (arith, z, some_weight)),
    ) in
    let s : IsView t n spent = ((λ some. absurd (omega (arith, some))), (λ q. omega arith), λ z. refl) in
    kept t n words views (set (set views id both) other spent) h
    (each_set (IsView t n) (set views id both) other spent s (each_set (IsView t n) views id both b h.each))
    (total_join (λ (u : View). u.weight) views id v other w both spent at at' refl refl)
    (λ x. total_join (λ (u : View). times x u.given) views id v other w both spent at at' (times-append x v.given w.given) refl)
    (λ a b. total_join (λ (u : View). within a b u.given) views id v other w both spent at at' (within-append a b v.given w.given) refl)
    (λ q. total_join (λ (u : View). times q u.ends) views id v other w both spent at at' (times-append q v.ends w.ends) refl)

-- who has the whole weight and has seen each end has each task once
pub whole_ok : (t n id : ℕ) (v : View) (words : List ℕ) (views : List View) → IsLawful t n words views → get_elem? views id ≡ some v
    → v.weight ≡ n
    → ((q : ℕ) → q < n → 1 ≤ times q v.ends) → (x : ℕ) → times x v.given ≡ cond (nat_lt x t) 1 0
whole_ok t n id v words views h at all seen x =
    let whole : total (λ (u : View). times x u.given) views ≡ times x v.given =
    total_whole (λ (u : View). times x u.given) (λ (u : View). u.weight) views id v at (h.weights ∙ sym all)
    (λ i u e z. ap (times x) ((h.each i u e).2 z)) in
    dite (dec_lt x t)
    (λ lt. let o = locate t n x h.small.1 lt in
    let g = h.given o.0 x o.1 o.2 o.3 in
    let w = h.next o.0 o.1 in
    let s = seen o.0 o.1 in
    let m = total_member (λ (u : View). times o.0 u.ends) views id v at in
    let past : end_of t n o.0
    ≤ next_of words o.0 = dite (dec_lt (next_of words o.0) (end_of t n o.0))
    (λ under. absurd (let z = w.1 (omega (arith, under)) in omega (arith, z, m, s))) (λ no. omega (arith, no)) in
    let far = o.3 in
    grind (arith, nat_tests, g, whole, lt, past, far))
    (λ ge. let b = h.beyond x (omega (arith, ge)) in grind (arith, nat_tests, whole, b, ge))

-- at the opening each next number is its queue's start, and one view has the whole weight
pub begins : (t n : ℕ) (words : List ℕ) → t ≤ most_tasks → 0 < n → n ≤ 32 → length words ≡ n * 8
    → ((q : ℕ) → q < n → next_of words q ≡ start_of t n q)
    → IsLawful t n words (view t n n [] [] ∷ [])
begins t n words st pos sn len at = record {
  small = (st, pos, sn, len);
  each = first;
  weights = omega arith;
  given = λ q x lt a b. let w = at q lt in grind (arith, nat_tests, w, a);
  beyond = λ x past. omega arith;
  counted = λ q lt. let w = at q lt in omega (arith, w);
  next = λ q lt. let w = at q lt in let u = start_up t n q (q + 1) pos (omega arith) in
      ((omega (arith, w)), (λ le. omega arith), λ ge. omega (arith, ge, w, u));
}
  where
    first : Each (IsView t n) (view t n n [] [] ∷ [])
    first zero v e = subst (IsView t n) (some-injective (view t n n [] []) v e) ((λ some. (refl, refl)), (λ q. omega arith), λ z. refl)
    first (suc i) v e = absurd (some-ne-none v (sym e))
