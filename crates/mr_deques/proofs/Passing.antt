-- A pass after it took a number.
use Rattle.std.proofs.Common.{Global, slice_get, flat_map, ◌≡◌, ◌≢◌, ℕ, zero, suc, ◌+◌, ◌<◌, ◌≤◌, ◌==◌, Bool, true, false, true≢false, cond}
use Rattle.std.proofs.Common.{nat_lt, List, [], ◌∷◌, ◌++◌, length, length-set, take, drop, slice_index_or, slice_set, get_or, Option, Some}
use Rattle.std.proofs.Common.{None, refl, sym, ap, ◌∙◌, arith, subst}
use Rattle.std.proofs.lemmas.Bool.Decides.{nat_tests}
use Rattle.std.proofs.lemmas.List.{get_or-set_same, get_or-set_other}
use Rattle.std.proofs.lemmas.Option.{get_or_from_slice_get}
use mathlib.Core.Logic.{dite}
use native.Mathlib.Decide.{dec_lt, ℕ_discrete}
use Rattle.crossbeam_deque.specs.Handles.{Pass, view as pass_view, IsPassOf as IsGuestOf, SamePass, SameWorker, worker_view, stealer_deque}
use Rattle.mr_base.specs.Lending.{refilled}
use Rattle.mr_base.specs.Tasks.{total_of, times, start_of, IsApartBelow}
use Rattle.mr_base.proofs.Times.{times-snoc, times-append}
use Rattle.mr_base.proofs.Starts.{start_up, start_last, start_below}
use Rattle.mr_deques.specs.declared.view.View.{View}
use Rattle.mr_deques.specs.declared.view.About.{About}
use Rattle.mr_deques.specs.declared.deques.Deques.{Deques}
use Rattle.mr_deques.specs.declared.passes.DequePass.{DequePass}
use Rattle.mr_deques.specs.Lawful.{view, marks, MayTake, Took}
use Rattle.mr_deques.specs.Passes.{below, tasks_of, guest_tasks, given_to, IsPart, IsSeen, IsGuest, Holds, IsSound, IsPassOf}
use Rattle.mr_deques.proofs.Steps.{marks-snoc}
use Rattle.mr_deques.proofs.Counts.{below_times, below_past, in_range, spread, none_of, times-set, flat_map-set, some_of, at_in}

-- what was taken, of one name
pub took_is : (v w : View) (x : ℕ) → Took v (x ∷ []) w
    → (w ≡ view v.about v.pushed v.weight (v.list ++ x ∷ []) true) × (v.about.start ≤ x)
    × ((y : ℕ) → times y w.list ≤ cond (nat_lt y v.about.start) 0 1)
took_is v w x told =
    let same : told.0 ≡ x = sym (ap (λ l. get_or l 0 0) told.1) in (
      subst (λ k. w ≡ view v.about v.pushed v.weight (v.list ++ k ∷ []) true) same told.2,
      subst (λ k. v.about.start ≤ k) same told.3,
      told.5,
    )

pub may_take : (d : Deques) (m : List Bool) (q : ℕ) (v : View) → IsSeen d m q v → slice_index_or m q false ≡ false → MayTake v
may_take d m q v is unmarked = (is.0.1, is.1, is.2 ∙ ap (λ (b : Bool). cond b 1 0) unmarked)

marks_off : (n : ℕ) (b : Bool) → b ≡ false → n ≡ 0 → n ≡ cond b 1 0
marks_off n b e z = z ∙ sym (ap (λ (c : Bool). cond c 1 0) e)

marks_on : (n : ℕ) (b : Bool) → b ≡ true → n ≡ 1 → n ≡ cond b 1 0
marks_on n b e z = z ∙ sym (ap (λ (c : Bool). cond c 1 0) e)

module _ (d : Deques) (m : List Bool) (q x : ℕ) (v w : View) (is : IsSeen d m q v) (unmarked : slice_index_or m q false ≡ false)
    (told : Took v (x ∷ []) w) where
  took_part : IsPart d q w × (w.weight ≡ 1) × ((y : ℕ) → times y w.list ≤ 1) × (start_of (total_of d.ranges) (length d.ranges) q ≤ x)
  took_part =
      let t = took_is v w x told in
      let e = t.0 in
      let st : v.about.start ≡ start_of (total_of d.ranges) (length d.ranges) q = ap (λ (a : About). a.start) is.0.0 in (
        (
          ap (λ (u : View). u.about) e ∙ is.0.0,
          ap (λ (u : View). u.full) e,
          λ y lt. let o = t.2 y in grind (arith, nat_tests, o, st, lt),
        ),
        ap (λ (u : View). u.weight) e ∙ is.1,
        (λ y. let o = t.2 y in grind (arith, nat_tests, o)),
        (let o = t.1 in omega (arith, o, st)),
      )

  took_marks : marks w.about.end w.list ≡ cond (nat_lt x (start_of (total_of d.ranges) (length d.ranges) (q + 1))) 0 1
  took_marks =
      let t = took_is v w x told in
      let en : v.about.end ≡ start_of (total_of d.ranges) (length d.ranges) (q + 1) = ap (λ (a : About). a.end) is.0.0 in
      let e : marks w.about.end w.list ≡ marks v.about.end (v.list ++ x ∷ []) = ap (λ (u : View). marks u.about.end u.list) t.0 in
      let s = marks-snoc v.about.end v.list x in
      let z = (may_take d m q v is unmarked).2 in
      rw e (rw s (rw z (rw en (omega arith))))

  pub seen_task : x < start_of (total_of d.ranges) (length d.ranges) (q + 1) → IsSeen d m q w
  seen_task lt = let p = took_part in let k = took_marks in
      (p.0, p.1, marks_off (marks w.about.end w.list) (slice_index_or m q false) unmarked (grind (arith, nat_tests, k, lt)), p.2)

  pub seen_mark : (m' : List Bool) → slice_index_or m' q false ≡ true → start_of (total_of d.ranges) (length d.ranges) (q + 1) ≤ x
      → IsSeen d m' q w
  seen_mark m' put ge = let p = took_part in let k = took_marks in
      (p.0, p.1, marks_on (marks w.about.end w.list) (slice_index_or m' q false) put (grind (arith, nat_tests, k, ge)), p.2)

  pub more_tasks : (y : ℕ) → x < start_of (total_of d.ranges) (length d.ranges) (q + 1)
      → times y (tasks_of w) ≡ times y (tasks_of v) + cond (x == y) 1 0
  more_tasks y lt =
      let t = took_is v w x told in
      let e : tasks_of w ≡ below v.about.end (v.list ++ x ∷ []) = ap tasks_of t.0 in
      let en : v.about.end ≡ start_of (total_of d.ranges) (length d.ranges) (q + 1) = ap (λ (a : About). a.end) is.0.0 in
      let a = below_times v.about.end y (v.list ++ x ∷ []) in
      let b = below_times v.about.end y v.list in
      let s = times-snoc y v.list x in
      rw e (grind (arith, nat_tests, a, b, s, en, lt))

  pub same_tasks : start_of (total_of d.ranges) (length d.ranges) (q + 1) ≤ x → tasks_of w ≡ tasks_of v
  same_tasks ge =
      let t = took_is v w x told in
      let e : tasks_of w ≡ below v.about.end (v.list ++ x ∷ []) = ap tasks_of t.0 in
      let en : v.about.end ≡ start_of (total_of d.ranges) (length d.ranges) (q + 1) = ap (λ (a : About). a.end) is.0.0 in
      e ∙ below_past v.about.end v.list x (omega (arith, en, ge))

-- no task stands twice, and each is below the total
view_bound : (d : Deques) (q y : ℕ) (v : View) → IsPart d q v → times y v.list ≤ 1
    → times y (tasks_of v) ≤ in_range (total_of d.ranges) (length d.ranges) q y
view_bound d q y v is one =
    let en : v.about.end ≡ start_of (total_of d.ranges) (length d.ranges) (q + 1) = ap (λ (a : About). a.end) is.0 in
    let a = below_times v.about.end y v.list in
    dite (dec_lt y (start_of (total_of d.ranges) (length d.ranges) q))
    (λ lt. let z = is.2 y lt in grind (arith, nat_tests, a, en, z, lt))
    (λ over. grind (arith, nat_tests, a, en, one, over))

guest_bound : {A : Type 0} (d : Deques) (F : View → Type 0) (deque : _) (q y : ℕ) (o : Option (Pass ℕ View A))
    → ((v : View) → F v → IsPart d q v × (times y v.list ≤ 1)) → IsGuest F deque o
    → times y (guest_tasks o) ≤ in_range (total_of d.ranges) (length d.ranges) q y
guest_bound d F deque q y None k h = absurd h
guest_bound d F deque q y (Some g) k h = let r = k (pass_view g) h.1 in view_bound d q y (pass_view g) r.0 r.1

pub given_apart : (d : Deques) (p : DequePass) → IsSound d → p.number < length d.ranges
    → Holds d p.number (length d.ranges) (IsSeen d p.marked p.number) (IsSeen d p.marked) p → IsApartBelow (total_of d.ranges) (given_to p)
given_apart d p sound lt h y =
    let pos : 0 < length d.ranges = omega (arith, lt) in
    let th = some_of d.thieves.items (let l = sound.0 in omega (arith, l, pos)) in
    let len = h.length_is in
    let mine = view_bound d p.number y (worker_view p.own) h.own.0 (h.own.3 y) in
    let at_q : (q : ℕ) → q < length d.ranges → q ≢ p.number
    → times y (guest_tasks (slice_index_or p.guests.items q None)) ≤ in_range (total_of d.ranges) (length d.ranges) q y =
    (λ q ql ne. guest_bound d (IsSeen d p.marked q) (stealer_deque (slice_index_or d.thieves.items q th)) q y
    (slice_index_or p.guests.items q None) (λ v s. (s.0, s.3 y)) (h.guest q th ql ne)) in
    let gap_ : times y (guest_tasks (slice_index_or p.guests.items p.number None)) ≡ 0 = ap (λ o. times y (guest_tasks o)) h.gap in
    let part : (j : ℕ) (e : _) → j < length p.guests.items
    → times y (guest_tasks (slice_index_or p.guests.items j e)) ≤ in_range (total_of d.ranges) (length d.ranges) j y = (λ j e jl.
    let same : times y (guest_tasks (slice_index_or p.guests.items j e)) ≡ times y (guest_tasks (slice_index_or p.guests.items j None)) =
    ap (λ o. times y (guest_tasks o)) (at_in p.guests.items j e None jl) in
    dite (ℕ_discrete j p.number)
    (λ is. let z : times y (guest_tasks (slice_index_or p.guests.items j None))
    ≡ 0 = subst (λ k. times y (guest_tasks (slice_index_or p.guests.items k None)) ≡ 0) (sym is) gap_ in omega (arith, same, z))
    (λ ne. let b = at_q j (omega (arith, jl, len)) ne in omega (arith, same, b))) in
    let all = spread guest_tasks (total_of d.ranges) (length d.ranges) pos p.guests.items 0 y
    (λ j e jl. subst (λ k. times y (guest_tasks (slice_index_or p.guests.items j e)) ≤ in_range (total_of d.ranges) (length d.ranges) k y)
    (omega arith) (part j e jl)) in
    let all' = subst (λ k. times y (flat_map guest_tasks p.guests.items)
    ≤ cond (nat_lt y (start_of (total_of d.ranges) (length d.ranges) 0)) 0
    (cond (nat_lt y (start_of (total_of d.ranges) (length d.ranges) k)) 1 0))
    (let e : 0 + length p.guests.items ≡ length d.ranges = omega (arith, len) in e) all in
    let top = start_last (total_of d.ranges) (length d.ranges) pos in
    let mid = start_below (total_of d.ranges) (length d.ranges) (p.number + 1) pos (omega (arith, lt)) in
    let sum = times-append y (tasks_of (worker_view p.own)) (flat_map guest_tasks p.guests.items) in
    let others : start_of (total_of d.ranges) (length d.ranges) p.number ≤ y
    → y < start_of (total_of d.ranges) (length d.ranges) (p.number + 1) → times y (flat_map guest_tasks p.guests.items) ≡ 0 =
    (λ lo hi. none_of guest_tasks p.guests.items y (λ j e jl.
    let b = part j e jl in
    dite (ℕ_discrete j p.number)
    (λ is. let z : times y (guest_tasks (slice_index_or p.guests.items j None))
    ≡ 0 = subst (λ k. times y (guest_tasks (slice_index_or p.guests.items k None)) ≡ 0) (sym is) gap_ in
    ap (λ o. times y (guest_tasks o)) (at_in p.guests.items j e None jl) ∙ z)
    (λ ne. out_of (total_of d.ranges) (length d.ranges) p.number j y
    (times y (guest_tasks (slice_index_or p.guests.items j e))) pos ne lo hi b))) in
    dite (dec_lt y (start_of (total_of d.ranges) (length d.ranges) p.number))
    (λ lo. grind (arith, nat_tests, all', top, mine, sum, lo))
    (λ lo. dite (dec_lt y (start_of (total_of d.ranges) (length d.ranges) (p.number + 1)))
    (λ hi. let z = others (omega (arith, lo)) hi in grind (arith, nat_tests, z, mine, sum, mid, hi))
    (λ hi. grind (arith, nat_tests, all', top, mine, sum, hi)))
  where
    out_of : (t n i j y k : ℕ) → 0 < n → j ≢ i → start_of t n i ≤ y → y < start_of t n (i + 1) → k ≤ in_range t n j y → k ≡ 0
    out_of t n i j y k pos ne lo hi b =
        dite (dec_lt j i)
        (λ lt. let u = start_up t n (j + 1) i pos (omega (arith, lt)) in grind (arith, nat_tests, b, u, lo))
        (λ ge. let u = start_up t n (i + 1) j pos (omega (arith, ge, ne)) in grind (arith, nat_tests, b, u, hi))

-- other marks do not touch a guest
seen_else : {A : Type 0} (d : Deques) (m m' : List Bool) (q : ℕ) (deque : _) (o : Option (Pass ℕ View A))
    → slice_index_or m' q false ≡ slice_index_or m q false → IsGuest (IsSeen d m q) deque o → IsGuest (IsSeen d m' q) deque o
seen_else d m m' q deque None e h = absurd h
seen_else d m m' q deque (Some g) e h = (h.0, (h.1.0, h.1.1, h.1.2 ∙ ap (λ (b : Bool). cond b 1 0) (sym e), h.1.3))

module _ (d : Deques) (p : DequePass) (is : IsPassOf d p) (opened : p.ended ≡ false) where
  -- its own deque gave a task, or an end mark
  module _ (o : DequePass) (x : ℕ) (unmarked : slice_index_or p.marked p.number false ≡ false) (same : SameWorker p.own o.own)
      (told : Took (worker_view p.own) (x ∷ []) (worker_view o.own)) where
    pub own_task : x < start_of (total_of d.ranges) (length d.ranges) (p.number + 1) → IsPassOf d (record p { own = o.own })
    own_task lt =
        let h = is.holds in
        let new : Holds d p.number (length d.ranges) (IsSeen d p.marked p.number) (IsSeen d p.marked) (record p { own = o.own }) = record {
          number = refl;
          wide = h.wide;
          length_is = h.length_is;
          deque = λ t. same.0 ∙ h.deque t;
          flavor = same.1 ∙ h.flavor;
          own = seen_task d p.marked p.number x (worker_view p.own) (worker_view o.own) h.own unmarked told lt;
          gap = h.gap;
          guest = h.guest;
        } in
        record {
          sound = is.sound;
          number = is.number;
          holds = new;
          apart = given_apart d (record p { own = o.own }) is.sound is.number new;
          ended = λ e. absurd (true≢false (sym e ∙ opened));
        }

    pub own_given : (y : ℕ) → x < start_of (total_of d.ranges) (length d.ranges) (p.number + 1)
        → times y (given_to (record p { own = o.own })) ≡ times y (given_to p ++ x ∷ [])
    own_given y lt =
        let m = more_tasks d p.marked p.number x (worker_view p.own) (worker_view o.own) is.holds.own unmarked told y lt in
        let a = times-append y (tasks_of (worker_view o.own)) (flat_map guest_tasks p.guests.items) in
        let b = times-append y (tasks_of (worker_view p.own)) (flat_map guest_tasks p.guests.items) in
        let s = times-snoc y (given_to p) x in
        omega (arith, m, a, b, s)

    pub own_mark : start_of (total_of d.ranges) (length d.ranges) (p.number + 1) ≤ x → length d.ranges ≤ 32
        → IsPassOf d (record p { own = o.own; marked = slice_set p.marked p.number true })
    own_mark ge small =
        let h = is.holds in
        let room : p.number < length p.marked = (let w = h.wide in let l = is.number in omega (arith, w, l, small)) in
        let new : Holds d p.number (length d.ranges) (IsSeen d (slice_set p.marked p.number true) p.number)
        (IsSeen d (slice_set p.marked p.number true)) (record p { own = o.own; marked = slice_set p.marked p.number true }) = record {
          number = refl;
          wide = length-set p.marked p.number true ∙ h.wide;
          length_is = h.length_is;
          deque = λ t. same.0 ∙ h.deque t;
          flavor = same.1 ∙ h.flavor;
          own = seen_mark d p.marked p.number x (worker_view p.own) (worker_view o.own) h.own unmarked told
              (slice_set p.marked p.number true) (get_or-set_same p.marked p.number true false room) ge;
          gap = h.gap;
          guest = λ q t lt ne. seen_else d p.marked (slice_set p.marked p.number true) q _ (slice_index_or p.guests.items q None)
              (get_or-set_other p.marked p.number q true false ne) (h.guest q t lt ne);
        } in
        record {
          sound = is.sound;
          number = is.number;
          holds = new;
          apart = given_apart d (record p { own = o.own; marked = slice_set p.marked p.number true }) is.sound is.number new;
          ended = λ e. absurd (true≢false (sym e ∙ opened));
        }

    pub own_same : start_of (total_of d.ranges) (length d.ranges) (p.number + 1) ≤ x
        → given_to (record p { own = o.own; marked = slice_set p.marked p.number true }) ≡ given_to p
    own_same ge = ap (λ l. l ++ flat_map guest_tasks p.guests.items)
        (same_tasks d p.marked p.number x (worker_view p.own) (worker_view o.own) is.holds.own unmarked told ge)

  -- another deque gave one
  module _ (o : DequePass) (q : ℕ) (g w : _) (g_is : slice_index_or p.guests.items q None ≡ Some g)
      (o_is : o.guests.items ≡ slice_set p.guests.items q (Some w)) (ql : q < length d.ranges) (ne : q ≢ p.number)
      (same : SamePass g w) where
    mine : (t : _) → IsGuestOf (stealer_deque (slice_index_or d.thieves.items q t)) g × IsSeen d p.marked q (pass_view g)
    mine t = subst (IsGuest (IsSeen d p.marked q) (stealer_deque (slice_index_or d.thieves.items q t))) g_is (is.holds.guest q t ql ne)

    seen_g : IsSeen d p.marked q (pass_view g)
    seen_g = (mine (some_of d.thieves.items (let l = is.sound.0 in omega (arith, l, ql)))).1

    moved : (m : List Bool) → length m ≡ 32 → ((j : ℕ) → j ≢ q → slice_index_or m j false ≡ slice_index_or p.marked j false)
        → IsSeen d m q (pass_view w)
        → IsPassOf d (record p { guests = o.guests; marked = m })
    moved m wide others told =
        let h = is.holds in
        let neq : p.number ≢ q = (λ e. ne (sym e)) in
        let room : q < length p.guests.items = (let l = h.length_is in omega (arith, l, ql)) in
        let v = h.own in
        let new : Holds d p.number (length d.ranges) (IsSeen d m p.number) (IsSeen d m) (record p { guests = o.guests; marked = m }) =
        record {
          number = refl;
          wide = wide;
          length_is = ap length o_is ∙ length-set p.guests.items q (Some w) ∙ h.length_is;
          deque = h.deque;
          flavor = h.flavor;
          own = (v.0, v.1, v.2 ∙ ap (λ (b : Bool). cond b 1 0) (sym (others p.number neq)), v.3);
          gap = ap (λ l. slice_index_or l p.number None) o_is ∙ get_or-set_other p.guests.items q p.number (Some w) None neq ∙ h.gap;
          guest = λ j t lt nej. dite (ℕ_discrete j q)
              (λ e. let k = mine t in
              let here : IsGuest (IsSeen d m q) (stealer_deque (slice_index_or d.thieves.items q t)) (Some w) =
              ((same.0 ∙ k.0.0, same.1 ∙ k.0.1, same.3, same.4), told) in
              let at_q = subst (IsGuest (IsSeen d m q) (stealer_deque (slice_index_or d.thieves.items q t)))
              (sym (ap (λ l. slice_index_or l q None) o_is ∙ get_or-set_same p.guests.items q (Some w) None room)) here in
              subst (λ i. IsGuest (IsSeen d m i) (stealer_deque (slice_index_or d.thieves.items i t))
              (slice_index_or o.guests.items i None)) (sym e) at_q)
              (λ nj. seen_else d p.marked m j _ (slice_index_or o.guests.items j None) (others j nj)
              (subst (IsGuest (IsSeen d p.marked j) (stealer_deque (slice_index_or d.thieves.items j t)))
              (sym (ap (λ l. slice_index_or l j None) o_is ∙ get_or-set_other p.guests.items q j (Some w) None nj)) (h.guest j t lt nej)));
        } in
        record {
          sound = is.sound;
          number = is.number;
          holds = new;
          apart = given_apart d (record p { guests = o.guests; marked = m }) is.sound is.number new;
          ended = λ e. absurd (true≢false (sym e ∙ opened));
        }

    pub guest_same : pass_view w ≡ pass_view g → IsPassOf d (record p { guests = o.guests })
    guest_same e = moved p.marked is.holds.wide (λ j nj. refl) (subst (IsSeen d p.marked q) (sym e) seen_g)

    kept : (m : List Bool) → tasks_of (pass_view w) ≡ tasks_of (pass_view g)
        → given_to (record p { guests = o.guests; marked = m }) ≡ given_to p
    kept m e =
        let f : guest_tasks (Some w) ≡ guest_tasks (slice_index_or p.guests.items q None) = e ∙ ap guest_tasks (sym g_is) in
        ap (λ l. tasks_of (worker_view p.own) ++ l)
        (ap (flat_map guest_tasks) o_is ∙ flat_map-set guest_tasks p.guests.items q None (Some w) f)

    pub guest_kept : pass_view w ≡ pass_view g → given_to (record p { guests = o.guests }) ≡ given_to p
    guest_kept e = kept p.marked (ap tasks_of e)

    module _ (x : ℕ) (unmarked : slice_index_or p.marked q false ≡ false) (told : Took (pass_view g) (x ∷ []) (pass_view w)) where
      pub guest_task : x < start_of (total_of d.ranges) (length d.ranges) (q + 1) → IsPassOf d (record p { guests = o.guests })
      guest_task lt =
          moved p.marked is.holds.wide (λ j nj. refl) (seen_task d p.marked q x (pass_view g) (pass_view w) seen_g unmarked told lt)

      pub guest_given : (y : ℕ) → x < start_of (total_of d.ranges) (length d.ranges) (q + 1)
          → times y (given_to (record p { guests = o.guests })) ≡ times y (given_to p ++ x ∷ [])
      guest_given y lt =
          let room : q < length p.guests.items = (let l = is.holds.length_is in omega (arith, l, ql)) in
          let m = more_tasks d p.marked q x (pass_view g) (pass_view w) seen_g unmarked told y lt in
          let a = times-append y (tasks_of (worker_view p.own)) (flat_map guest_tasks o.guests.items) in
          let b = times-append y (tasks_of (worker_view p.own)) (flat_map guest_tasks p.guests.items) in
          let e : times y (flat_map guest_tasks o.guests.items) ≡ times y (flat_map guest_tasks (slice_set p.guests.items q (Some w))) =
          ap (λ l. times y (flat_map guest_tasks l)) o_is in
          let j = times-set guest_tasks p.guests.items q None (Some w) y room in
          let k : times y (guest_tasks (slice_index_or p.guests.items q None)) ≡ times y (tasks_of (pass_view g)) =
          ap (λ l. times y (guest_tasks l)) g_is in
          let s = times-snoc y (given_to p) x in
          omega (arith, m, a, b, s, e, j, k)

      pub guest_mark : start_of (total_of d.ranges) (length d.ranges) (q + 1) ≤ x → length d.ranges ≤ 32
          → IsPassOf d (record p { guests = o.guests; marked = slice_set p.marked q true })
      guest_mark ge small =
          let room : q < length p.marked = (let wi = is.holds.wide in omega (arith, wi, ql, small)) in
          moved (slice_set p.marked q true) (length-set p.marked q true ∙ is.holds.wide)
          (λ j nj. get_or-set_other p.marked q j true false nj)
          (seen_mark d p.marked q x (pass_view g) (pass_view w) seen_g unmarked told (slice_set p.marked q true)
          (get_or-set_same p.marked q true false room) ge)

      pub guest_marked : start_of (total_of d.ranges) (length d.ranges) (q + 1) ≤ x
          → given_to (record p { guests = o.guests; marked = slice_set p.marked q true }) ≡ given_to p
      guest_marked ge = kept (slice_set p.marked q true) (same_tasks d p.marked q x (pass_view g) (pass_view w) seen_g unmarked told ge)

pub refilled_is : {X : Type 0} (xs ws : List X) → length ws ≡ length xs → take (length xs) (ws ++ drop (length ws) xs) ≡ ws
refilled_is xs ws e = let z = nothing xs in rw e (rw z (whole (length xs) ws e))
  where
    nothing : {X : Type 0} (xs : List X) → drop (length xs) xs ≡ []
    nothing [] = refl
    nothing (x ∷ xs) = nothing xs

    whole : {X : Type 0} (n : ℕ) (ws : List X) → length ws ≡ n → take n (ws ++ []) ≡ ws
    whole zero [] e = refl
    whole (suc n) [] e = refl
    whole zero (w ∷ ws) e = absurd (omega (arith, e))
    whole (suc n) (w ∷ ws) e = ap (λ l. w ∷ l) (whole n ws (omega (arith, e)))

-- the pass with one of its views written through a slice of them
abbrev pub refill : DequePass → List (Option (Pass ℕ View Global)) → ℕ → Pass ℕ View Global → DequePass
refill p ys q w = record p { guests = refilled p.guests (slice_set ys q (Some w)) }

pub refill_is : (p : DequePass) (ys : List (Option (Pass ℕ View Global))) (q : ℕ) (w : Pass ℕ View Global) → ys ≡ p.guests.items
    → (refill p ys q w).guests.items ≡ slice_set p.guests.items q (Some w)
refill_is p ys q w same = rw same (refilled_is p.guests.items (slice_set p.guests.items q (Some w)) (length-set p.guests.items q (Some w)))

pub below_total : (d : Deques) (q x : ℕ) → q < length d.ranges → x < start_of (total_of d.ranges) (length d.ranges) (q + 1)
    → x < total_of d.ranges
below_total d q x ql lt = let b = start_below (total_of d.ranges) (length d.ranges) (q + 1) (omega (arith, ql)) (omega (arith, ql)) in
    omega (arith, b, lt)

-- what stands at a place
pub found_at : {X : Type 0} (xs : List X) (i : ℕ) (x : X) → slice_get xs i ≡ Some x → x ≡ slice_index_or xs i x
found_at xs i x e = sym (get_or_from_slice_get xs i x x e)

pub no_none : {A : Type 0} (F : View → Type 0) (deque : _) (o : Option (Pass ℕ View A)) → IsGuest F deque o → o ≡ None → ⊥
no_none F deque None h e = h
no_none F deque (Some g) h e = cc

-- how place q of the guests was found
pub guest_at : {A : Type 0} (gs ys : List (Option (Pass ℕ View A))) (q : ℕ) (e v : Option (Pass ℕ View A)) → ys ≡ gs → q < length gs
    → slice_index_or ys q e ≡ v → slice_index_or gs q None ≡ v
guest_at gs ys q e v same lt is = at_in gs q None e lt ∙ ap (λ l. slice_index_or l q e) (sym same) ∙ is

pub rests : (d : Deques) (p : DequePass) → IsPassOf d p → slice_index_or p.marked p.number false ≡ true
    → IsPassOf d (record p { ended = true })
rests d p is put = record {
  sound = is.sound;
  number = is.number;
  holds = record {
    number = refl;
    wide = is.holds.wide;
    length_is = is.holds.length_is;
    deque = is.holds.deque;
    flavor = is.holds.flavor;
    own = is.holds.own;
    gap = is.holds.gap;
    guest = is.holds.guest;
  };
  apart = is.apart;
  ended = λ e. put;
}
