-- The views of each deque come together again.
use Rattle.std.proofs.Common.{flat_map, ◌≡◌, ◌≢◌, ℕ, ◌+◌, ◌<◌, ◌≤◌, ◌==◌, Bool, true, cond, nat_lt, List, [], ◌∷◌, ◌++◌, length, length-set}
use Rattle.std.proofs.Common.{slice_index_or, slice_set, Option, Some, None, MatchOption, refl, sym, ap, ◌∙◌, arith, subst}
use Rattle.std.proofs.lemmas.Bool.Decides.{nat_tests}
use Rattle.std.proofs.lemmas.List.{get_or-set_same, get_or-set_other}
use mathlib.Core.Logic.{dite}
use native.Mathlib.Decide.{dec_lt, ℕ_discrete}
use Rattle.atomic_blocks.specs.Lent.{RowsId}
use Rattle.crossbeam_deque.specs.Handles.{Pass, view as pass_view, IsPassOf as IsGuestOf, SameWorker, worker_deque, worker_flavor}
use Rattle.crossbeam_deque.specs.Handles.{worker_view, stealer_deque}
use Rattle.mr_base.specs.Tasks.{total_of, times, start_of, AreAll, HaveEnded}
use Rattle.mr_base.proofs.Times.{times-snoc, times-append}
use Rattle.mr_deques.specs.declared.view.View.{View}
use Rattle.mr_deques.specs.declared.view.About.{About}
use Rattle.mr_deques.specs.declared.deques.Deques.{Deques}
use Rattle.mr_deques.specs.declared.passes.DequePass.{DequePass}
use Rattle.mr_deques.specs.Lawful.{view, marks, Took, HasAll}
use Rattle.mr_deques.specs.Passes.{below, tasks_of, guest_tasks, given_to, IsPart, IsSeen, IsGuest, Holds, IsPassOf, number_of, has_ended}
use Rattle.mr_deques.specs.Phases.{IsWhole, Joining, Joined}
use Rattle.mr_deques.proofs.Steps.{marks-append}
use Rattle.mr_base.proofs.Passes.{times-push, at_last, at_before, length-push}
use Rattle.mr_deques.proofs.Counts.{below_times, each_once, times-set, some_of, at_past}
use Rattle.mr_deques.proofs.Passing.{took_is, no_none}

pub guest_more : {A : Type 0} (F G : View → Type 0) (deque : RowsId × A) (o : Option (Pass ℕ View A)) → ((v : View) → F v → G v)
    → IsGuest F deque o → IsGuest G deque o
guest_more F G deque None k h = absurd h
guest_more F G deque (Some g) k h = (h.0, k (pass_view g) h.1)

pub rehold : (d : Deques) (i len i' len' : ℕ) (Own Own' : View → Type 0) (Other Other' : ℕ → View → Type 0) (p : DequePass) → i ≡ i'
    → len ≡ len' → (Own (worker_view p.own) → Own' (worker_view p.own))
    → ((j : ℕ) (v : View) → Other j v → Other' j v) → Holds d i len Own Other p → Holds d i' len' Own' Other' p
rehold d i len i' len' Own Own' Other Other' p ie le own other h =
    let k : Holds d i len Own' Other' p = record {
      number = h.number;
      wide = h.wide;
      length_is = h.length_is;
      deque = h.deque;
      flavor = h.flavor;
      own = own h.own;
      gap = h.gap;
      guest = λ q t lt ne. guest_more (Other q) (Other' q) (stealer_deque (slice_index_or d.thieves.items q t))
          (slice_index_or p.guests.items q None) (other q) (h.guest q t lt ne);
    } in
    subst (λ a. Holds d a len' Own' Other' p) ie (subst (λ b. Holds d i b Own' Other' p) le k)

-- the predicates of the record
abbrev pub MineIs : Deques → ℕ → ℕ → ℕ → View → Type 0
MineIs d q w i v = IsPart d i v × (i < q → (v.weight ≡ 1) × (1 ≤ marks v.about.end v.list))
    × (i ≡ q → (v.weight + cond (nat_lt q w) 1 0 ≡ w + 1) × (1 ≤ marks v.about.end v.list)) × (q < i → IsWhole d i v)

abbrev pub OtherIs : Deques → ℕ → View → Type 0
OtherIs d j v = IsPart d j v × (v.weight ≡ 1)

-- the pass at another place
pub other_at : (ps : List DequePass) (w i : ℕ) (v e : DequePass) → i ≢ w → slice_index_or (slice_set ps w v) i e ≡ slice_index_or ps i e
other_at ps w i v e ne = get_or-set_other ps w i v e ne

module _ (d : Deques) (q w : ℕ) (ps : List DequePass) (j : Joining d q w ps) (wl : w < length d.ranges) (ql : q < length d.ranges)
    (e : DequePass) where
  room_w : w < length ps
  room_w = let l = j.length_is in omega (arith, l, wl)

  at_w : Holds d w (q + 1) (MineIs d q w w) (OtherIs d) (slice_index_or ps w e)
  at_w = rehold d w (cond (nat_lt w w) q (q + 1)) w (q + 1) (MineIs d q w w) (MineIs d q w w) (OtherIs d) (OtherIs d)
      (slice_index_or ps w e) refl (grind (arith, nat_tests)) (λ x. x) (λ k v x. x) (j.each w e wl)

  pub has_last : 0 < length (slice_index_or ps w e).guests.items
  has_last = let l = at_w.length_is in omega (arith, l)

  module _ (p : DequePass) (o : _) (pop : (slice_index_or ps w e).guests.items ≡ p.guests.items ++ o ∷ [])
      (same : (p.number ≡ (slice_index_or ps w e).number) × (p.own ≡ (slice_index_or ps w e).own)
      × (p.marked ≡ (slice_index_or ps w e).marked)) where
    left_len : length p.guests.items ≡ q
    left_len = let l = at_w.length_is in let a = ap length pop in let b = length-push p.guests.items o in omega (arith, l, a, b)

    before : (k : ℕ) → k < q → slice_index_or p.guests.items k None ≡ slice_index_or (slice_index_or ps w e).guests.items k None
    before k lt = sym (ap (λ l. slice_index_or l k None) pop ∙ at_before p.guests.items o None k (let l = left_len in omega (arith, l, lt)))

    last_at : slice_index_or (slice_index_or ps w e).guests.items q None ≡ o
    last_at = ap (λ l. slice_index_or l q None) pop
        ∙ (ap (λ k. slice_index_or (p.guests.items ++ o ∷ []) k None) (sym left_len) ∙ at_last p.guests.items o None)

    -- pass w with one view fewer
    shrunk : Holds d w q (MineIs d q w w) (OtherIs d) p
    shrunk =
        let h = at_w in
        record {
          number = same.0 ∙ h.number;
          wide = ap length same.2 ∙ h.wide;
          length_is = left_len;
          deque = λ t. ap worker_deque same.1 ∙ h.deque t;
          flavor = ap worker_flavor same.1 ∙ h.flavor;
          own = subst (λ u. MineIs d q w w (worker_view u)) (sym same.1) h.own;
          gap = dite (dec_lt w q) (λ lt. before w lt ∙ h.gap)
              (λ ge. at_past p.guests.items None w (let l = left_len in omega (arith, l, ge)));
          guest = λ k t lt ne. subst (IsGuest (OtherIs d k) (stealer_deque (slice_index_or d.thieves.items k t))) (sym (before k lt))
              (h.guest k t (omega (arith, lt)) ne);
        }

    -- its tasks, and those of the view that left
    given_w : (y : ℕ) → times y (given_to (slice_index_or ps w e)) ≡ times y (given_to p) + times y (guest_tasks o)
    given_w y =
        let a = times-append y (tasks_of (worker_view (slice_index_or ps w e).own))
        (flat_map guest_tasks (slice_index_or ps w e).guests.items) in
        let b = times-append y (tasks_of (worker_view p.own)) (flat_map guest_tasks p.guests.items) in
        let c : times y (flat_map guest_tasks (slice_index_or ps w e).guests.items)
        ≡ times y (flat_map guest_tasks (p.guests.items ++ o ∷ [])) = ap (λ l. times y (flat_map guest_tasks l)) pop in
        let s = times-push guest_tasks p.guests.items o y in
        let m : times y (tasks_of (worker_view p.own)) ≡ times y (tasks_of (worker_view (slice_index_or ps w e).own)) =
        ap (λ u. times y (tasks_of (worker_view u))) same.1 in
        omega (arith, a, b, c, s, m)

    -- nothing comes from the pass that owns deque q
    module _ (none : o ≡ None) where
      is_own : w ≡ q
      is_own = dite (ℕ_discrete w q) (λ x. x) (λ ne.
          let t = some_of d.thieves.items (let l = j.sound.0 in omega (arith, l, ql)) in
          absurd (no_none (OtherIs d q) (stealer_deque (slice_index_or d.thieves.items q t))
          (slice_index_or (slice_index_or ps w e).guests.items q None) (at_w.guest q t (omega arith) (λ x. ne (sym x))) (last_at ∙ none)))

      pub none_joining : Joining d q (w + 1) (slice_set ps w p)
      none_joining = record {
        sound = j.sound;
        length_is = length-set ps w p ∙ j.length_is;
        each = λ i f il. dite (ℕ_discrete i w)
            (λ is.
            let wq = is_own in
            let h = rehold d w q i (cond (nat_lt i (w + 1)) q (q + 1)) (MineIs d q w w) (MineIs d q (w + 1) i) (OtherIs d) (OtherIs d) p
            (sym is) (grind (arith, nat_tests, is))
            (λ v. subst (λ k. MineIs d q (w + 1) k (worker_view p.own)) (sym is) (
              v.0,
              (λ lt. absurd (omega (arith, lt, wq))),
              (λ x. let y = v.2 wq in ((let z = y.0 in grind (arith, nat_tests, z, wq)), y.1)),
              v.3,
            )) (λ k v x. x) shrunk in
            subst (Holds d i (cond (nat_lt i (w + 1)) q (q + 1)) (MineIs d q (w + 1) i) (OtherIs d))
            (sym (ap (λ k. slice_index_or (slice_set ps w p) k f) is ∙ get_or-set_same ps w p f room_w)) h)
            (λ ne.
            let wq = is_own in
            let h = rehold d i (cond (nat_lt i w) q (q + 1)) i (cond (nat_lt i (w + 1)) q (q + 1)) (MineIs d q w i) (MineIs d q (w + 1) i)
            (OtherIs d) (OtherIs d) (slice_index_or ps i f) refl (grind (arith, nat_tests, ne))
            (λ v. (v.0, v.1, (λ x. absurd (ne (x ∙ sym wq))), v.3)) (λ k v x. x) (j.each i f il) in
            subst (Holds d i (cond (nat_lt i (w + 1)) q (q + 1)) (MineIs d q (w + 1) i) (OtherIs d)) (sym (other_at ps w i p f ne)) h);
      }

      pub none_given : (y : ℕ) → times y (flat_map given_to (slice_set ps w p)) ≡ times y (flat_map given_to ps)
      none_given y =
          let a = times-set given_to ps w e p y room_w in
          let b = given_w y in
          let c : times y (guest_tasks o) ≡ 0 = ap (λ u. times y (guest_tasks u)) none in
          omega (arith, a, b, c)

    -- a view of deque q comes from another pass
    module _ (g : _) (found : o ≡ Some g) (f : DequePass) where
      is_other : w ≢ q
      is_other wq = let z : o ≡ None = sym last_at
          ∙ (subst (λ k. slice_index_or (slice_index_or ps w e).guests.items k None ≡ None) wq at_w.gap) in
          let b : None ≡ Some g = sym z ∙ found in cc

      pub now_q : slice_index_or (slice_set ps w p) q f ≡ slice_index_or ps q f
      now_q = other_at ps w q p f (λ x. is_other (sym x))

      pub at_q : Holds d q (cond (nat_lt q w) q (q + 1)) (MineIs d q w q) (OtherIs d) (slice_index_or (slice_set ps w p) q f)
      at_q = subst (Holds d q (cond (nat_lt q w) q (q + 1)) (MineIs d q w q) (OtherIs d)) (sym now_q) (j.each q f ql)

      the_guest : (t : _) → IsGuestOf (stealer_deque (slice_index_or d.thieves.items q t)) g × OtherIs d q (pass_view g)
      the_guest t = subst (IsGuest (OtherIs d q) (stealer_deque (slice_index_or d.thieves.items q t))) (last_at ∙ found)
          (at_w.guest q t (omega arith) (λ x. is_other (sym x)))

      pub guest_of : IsGuestOf (worker_deque (slice_index_or (slice_set ps w p) q f).own) g × ((pass_view g).full ≡ true)
      guest_of =
          let t = some_of d.thieves.items (let l = j.sound.0 in omega (arith, l, ql)) in
          let k = the_guest t in
          (subst (λ u. IsGuestOf u g) (sym (at_q.deque t)) k.0, k.1.0.1)

      pub owner_full : ((worker_view (slice_index_or (slice_set ps w p) q f).own).full ≡ true)
          × (0 < (worker_view (slice_index_or (slice_set ps w p) q f).own).weight)
      owner_full = let v = at_q.own in (v.0.1, (let z = (v.2 refl).0 in grind (arith, nat_tests, z, is_other)))

      -- its owner has it now
      module _ (r : DequePass) (kept : SameWorker (slice_index_or (slice_set ps w p) q f).own r.own)
          (views : let v = worker_view (slice_index_or (slice_set ps w p) q f).own in let u = pass_view g in
          worker_view r.own ≡ view v.about v.pushed (v.weight + u.weight) (v.list ++ u.list) true) where
        old_q : DequePass
        old_q = slice_index_or (slice_set ps w p) q f

        abbrev now : DequePass
        now = record (slice_index_or (slice_set ps w p) q f) { own = r.own }

        known : OtherIs d q (pass_view g)
        known = (the_guest (some_of d.thieves.items (let l = j.sound.0 in omega (arith, l, ql)))).1

        mine_now : MineIs d q (w + 1) q (worker_view r.own)
        mine_now =
            let v = at_q.own in
            let k = known in
            let b = v.2 refl in
            subst (MineIs d q (w + 1) q) (sym views) (
              (
                v.0.0,
                refl,
                λ y lt. let a = times-append y (worker_view (slice_index_or (slice_set ps w p) q f).own).list
                    (pass_view g).list in let z = v.0.2 y lt in let u = k.0.2 y lt in omega (arith, a, z, u),
              ),
              (λ lt. absurd (omega (arith, lt))),
              (λ x. (
                (let z = b.0 in let one = k.1 in let o' = is_other in grind (arith, nat_tests, z, one, o')),
                (let a = marks-append (worker_view (slice_index_or (slice_set ps w p) q f).own).about.end
                    (worker_view (slice_index_or (slice_set ps w p) q f).own).list (pass_view g).list in let z = b.1 in
                    omega (arith, a, z)),
              )),
              (λ lt. absurd (omega (arith, lt))),
            )

        holds_now : Holds d q (cond (nat_lt q (w + 1)) q (q + 1)) (MineIs d q (w + 1) q) (OtherIs d) now
        holds_now =
            let h = at_q in
            let le : cond (nat_lt q w) q (q + 1) ≡ cond (nat_lt q (w + 1)) q (q + 1) =
            (let o' = is_other in grind (arith, nat_tests, o')) in
            record {
              number = h.number;
              wide = h.wide;
              length_is = h.length_is ∙ le;
              deque = λ t. kept.0 ∙ h.deque t;
              flavor = kept.1 ∙ h.flavor;
              own = mine_now;
              gap = h.gap;
              guest = λ k t lt ne. h.guest k t (subst (λ b. k < b) (sym le) lt) ne;
            }

        room_q : q < length (slice_set ps w p)
        room_q = let l = length-set ps w p in let m = j.length_is in omega (arith, l, m, ql)

        pub some_joining : Joining d q (w + 1) (slice_set (slice_set ps w p) q now)
        some_joining = record {
          sound = j.sound;
          length_is = length-set (slice_set ps w p) q now ∙ length-set ps w p ∙ j.length_is;
          each = λ i u il. dite (ℕ_discrete i q)
              (λ is. subst (λ k. Holds d k (cond (nat_lt k (w + 1)) q (q + 1)) (MineIs d q (w + 1) k) (OtherIs d)
              (slice_index_or (slice_set (slice_set ps w p) q now) k u)) (sym is)
              (subst (Holds d q (cond (nat_lt q (w + 1)) q (q + 1)) (MineIs d q (w + 1) q) (OtherIs d))
              (sym (get_or-set_same (slice_set ps w p) q now u room_q)) holds_now))
              (λ nq. subst (Holds d i (cond (nat_lt i (w + 1)) q (q + 1)) (MineIs d q (w + 1) i) (OtherIs d))
              (sym (other_at (slice_set ps w p) q i now u nq))
              (dite (ℕ_discrete i w)
              (λ is.
              let h = rehold d w q i (cond (nat_lt i (w + 1)) q (q + 1)) (MineIs d q w w) (MineIs d q (w + 1) i) (OtherIs d) (OtherIs d) p
              (sym is) (grind (arith, nat_tests, is))
              (λ v. subst (λ k. MineIs d q (w + 1) k (worker_view p.own)) (sym is) (v.0, v.1, (λ x. absurd (is_other x)), v.3))
              (λ k v x. x) shrunk in
              subst (Holds d i (cond (nat_lt i (w + 1)) q (q + 1)) (MineIs d q (w + 1) i) (OtherIs d))
              (sym (ap (λ k. slice_index_or (slice_set ps w p) k u) is ∙ get_or-set_same ps w p u room_w)) h)
              (λ ne.
              let h = rehold d i (cond (nat_lt i w) q (q + 1)) i (cond (nat_lt i (w + 1)) q (q + 1)) (MineIs d q w i)
              (MineIs d q (w + 1) i) (OtherIs d) (OtherIs d) (slice_index_or ps i u) refl (grind (arith, nat_tests, ne))
              (λ v. (v.0, v.1, (λ x. absurd (nq x)), v.3)) (λ k v x. x) (j.each i u il) in
              subst (Holds d i (cond (nat_lt i (w + 1)) q (q + 1)) (MineIs d q (w + 1) i) (OtherIs d)) (sym (other_at ps w i p u ne)) h)));
        }

        pub some_given : (y : ℕ) → times y (flat_map given_to (slice_set (slice_set ps w p) q now)) ≡ times y (flat_map given_to ps)
        some_given y =
            let a = times-set given_to ps w e p y room_w in
            let b = given_w y in
            let c : times y (guest_tasks o) ≡ times y (tasks_of (pass_view g)) = ap (λ u. times y (guest_tasks u)) found in
            let s = times-set given_to (slice_set ps w p) q f now y room_q in
            let v : View = worker_view (slice_index_or (slice_set ps w p) q f).own in
            let gs = (slice_index_or (slice_set ps w p) q f).guests.items in
            let m : times y (given_to now) ≡ times y (tasks_of (worker_view r.own)) + times y (flat_map guest_tasks gs) =
            times-append y (tasks_of (worker_view r.own)) (flat_map guest_tasks gs) in
            let n : times y (given_to (slice_index_or (slice_set ps w p) q f)) ≡ times y (tasks_of v) + times y (flat_map guest_tasks gs) =
            times-append y (tasks_of v) (flat_map guest_tasks gs) in
            let k : times y (tasks_of (worker_view r.own)) ≡ times y (below v.about.end (v.list ++ (pass_view g).list)) =
            ap (λ u. times y (tasks_of u)) views in
            let k0 = below_times v.about.end y (v.list ++ (pass_view g).list) in
            let k1 = below_times v.about.end y v.list in
            let k2 : times y (tasks_of (pass_view g)) ≡ cond (nat_lt y (pass_view g).about.end) (times y (pass_view g).list) 0 =
            below_times (pass_view g).about.end y (pass_view g).list in
            let ends : (pass_view g).about.end ≡ v.about.end = ap (λ (u : About). u.end) (known.0.0 ∙ sym at_q.own.0.0) in
            let l = times-append y v.list (pass_view g).list in
            let kk : times y (tasks_of (worker_view r.own)) ≡ times y (tasks_of v) + times y (tasks_of (pass_view g)) =
            grind (arith, nat_tests, k, k0, k1, k2, ends, l) in
            omega (arith, a, b, c, s, m, n, kk)

pub join_start : (d : Deques) (q : ℕ) (ps : List DequePass) → Joined d (q + 1) ps → Joining d q 0 ps
join_start d q ps j = record {
  sound = j.sound;
  length_is = j.length_is;
  each = λ i e il. rehold d i (q + 1) i (cond (nat_lt i 0) q (q + 1))
      (λ v. IsPart d i v × (i < q + 1 → (v.weight ≡ 1) × (1 ≤ marks v.about.end v.list)) × (q + 1 ≤ i → IsWhole d i v)) (MineIs d q 0 i)
      (OtherIs d) (OtherIs d) (slice_index_or ps i e) refl (grind (arith, nat_tests))
      (λ v. (
        v.0,
        (λ lt. v.1 (omega (arith, lt))),
        (λ x. let b = v.1 (omega (arith, x)) in ((let z = b.0 in grind (arith, nat_tests, z)), b.1)),
        (λ lt. v.2 (omega (arith, lt))),
      )) (λ k v x. x) (j.each i e il);
}

-- the last pop, or the empty deque
seal_view : (d : Deques) (q : ℕ) (v w : View) (r : Option ℕ) → IsPart d q v → v.weight ≡ length d.ranges → 1 ≤ marks v.about.end v.list
    → MatchOption r ((w ≡ v) × HasAll v) (λ x. HasAll v × Took v (x ∷ []) w)
    → IsPart d q w × IsWhole d q w × ((y : ℕ) → times y (tasks_of w) ≡ times y (tasks_of v))
seal_view d q v w None is all some_ told =
    let st : v.about.start ≡ start_of (total_of d.ranges) (length d.ranges) q = ap (λ (a : About). a.start) is.0 in
    let en : v.about.end ≡ start_of (total_of d.ranges) (length d.ranges) (q + 1) = ap (λ (a : About). a.end) is.0 in
    let ps : v.about.passes ≡ length d.ranges = ap (λ (a : About). a.passes) is.0 in
    subst (λ (u : View). IsPart d q u × IsWhole d q u × ((y : ℕ) → times y (tasks_of u) ≡ times y (tasks_of v))) (sym told.0)
    (is, (λ x lo hi. told.1 is.1 (all ∙ sym ps) some_ x (omega (arith, lo, st)) (omega (arith, hi, en))), λ y. refl)
seal_view d q v w (Some x) is all some_ told =
    let st : v.about.start ≡ start_of (total_of d.ranges) (length d.ranges) q = ap (λ (a : About). a.start) is.0 in
    let en : v.about.end ≡ start_of (total_of d.ranges) (length d.ranges) (q + 1) = ap (λ (a : About). a.end) is.0 in
    let ps : v.about.passes ≡ length d.ranges = ap (λ (a : About). a.passes) is.0 in
    let t = took_is v w x told.1 in
    let whole : IsWhole d q v = λ y lo hi. told.0 is.1 (all ∙ sym ps) some_ y (omega (arith, lo, st)) (omega (arith, hi, en)) in
    let counted : (y : ℕ) → times y w.list ≡ times y v.list + cond (x == y) 1 0 =
    λ y. ap (λ (u : View). times y u.list) t.0 ∙ times-snoc y v.list x in
    let again : IsWhole d q w = λ y lo hi. let a = whole y lo hi in let b = counted y in let o = t.2 y in
    grind (arith, nat_tests, a, b, o) in (
      (ap (λ (u : View). u.about) t.0 ∙ is.0, ap (λ (u : View). u.full) t.0, λ y lt. let o = t.2 y in grind (arith, nat_tests, o, st, lt)),
      again,
      λ y.
          let a = below_times w.about.end y w.list in
          let b = below_times v.about.end y v.list in
          let same : w.about.end ≡ v.about.end = ap (λ (u : View). u.about.end) t.0 in
          let c = counted y in
          dite (dec_lt y (start_of (total_of d.ranges) (length d.ranges) q))
          (λ lt. let z = is.2 y lt in let o = t.2 y in grind (arith, nat_tests, a, b, same, c, z, o, st, lt))
          (λ ge. dite (dec_lt y (start_of (total_of d.ranges) (length d.ranges) (q + 1)))
          (λ lt. let z = whole y (omega (arith, ge)) lt in let k = again y (omega (arith, ge)) lt in
          grind (arith, nat_tests, a, b, same, z, k))
          (λ past. grind (arith, nat_tests, a, b, same, en, past))),
    )

module _ (d : Deques) (q w : ℕ) (ps : List DequePass) (j : Joining d q w ps) (all : w ≡ length d.ranges) (ql : q < length d.ranges)
    (e : DequePass) where
  the_owner : Holds d q (cond (nat_lt q w) q (q + 1)) (MineIs d q w q) (OtherIs d) (slice_index_or ps q e)
  the_owner = j.each q e ql

  whole_weight : (worker_view (slice_index_or ps q e).own).weight ≡ length d.ranges
  whole_weight = let z = (the_owner.own.2 refl).0 in grind (arith, nat_tests, z, all, ql)

  pub last_flavor : worker_flavor (slice_index_or ps q e).own ≡ 0
  last_flavor = the_owner.flavor

  pub last_all : let v = worker_view (slice_index_or ps q e).own in (v.full ≡ true) × (v.weight ≡ v.about.passes)
  last_all = (the_owner.own.0.1, whole_weight ∙ sym (ap (λ (a : About). a.passes) the_owner.own.0.0))

  module _ (o : DequePass) (same : SameWorker (slice_index_or ps q e).own o.own) (r : Option ℕ)
      (told : let v = worker_view (slice_index_or ps q e).own in
      MatchOption r ((worker_view o.own ≡ v) × HasAll v) (λ x. HasAll v × Took v (x ∷ []) (worker_view o.own))) where
    abbrev sealed : DequePass
    sealed = record (slice_index_or ps q e) { own = o.own }

    new_view : IsPart d q (worker_view o.own) × IsWhole d q (worker_view o.own)
        × ((y : ℕ) → times y (tasks_of (worker_view o.own)) ≡ times y (tasks_of (worker_view (slice_index_or ps q e).own)))
    new_view = seal_view d q (worker_view (slice_index_or ps q e).own) (worker_view o.own) r the_owner.own.0 whole_weight
        (the_owner.own.2 refl).1 told

    abbrev DoneIs : ℕ → View → Type 0
    DoneIs i v = IsPart d i v × (i < q → (v.weight ≡ 1) × (1 ≤ marks v.about.end v.list)) × (q ≤ i → IsWhole d i v)

    sealed_holds : Holds d q q (DoneIs q) (OtherIs d) sealed
    sealed_holds =
        let h = the_owner in
        let le : cond (nat_lt q w) q (q + 1) ≡ q = grind (arith, nat_tests, all, ql) in
        record {
          number = h.number;
          wide = h.wide;
          length_is = h.length_is ∙ le;
          deque = λ t. same.0 ∙ h.deque t;
          flavor = same.1 ∙ h.flavor;
          own = (new_view.0, (λ lt. absurd (omega (arith, lt))), (λ x. new_view.1));
          gap = h.gap;
          guest = λ k t lt ne. h.guest k t (subst (λ b. k < b) (sym le) lt) ne;
        }

    room : q < length ps
    room = let l = j.length_is in omega (arith, l, ql)

    pub sealed_joined : Joined d q (slice_set ps q sealed)
    sealed_joined = record {
      sound = j.sound;
      length_is = length-set ps q sealed ∙ j.length_is;
      each = λ i u il. dite (ℕ_discrete i q)
          (λ is. subst (λ k. Holds d k q (DoneIs k) (OtherIs d) (slice_index_or (slice_set ps q sealed) k u)) (sym is)
          (subst (Holds d q q (DoneIs q) (OtherIs d)) (sym (get_or-set_same ps q sealed u room)) sealed_holds))
          (λ ne. subst (Holds d i q (DoneIs i) (OtherIs d)) (sym (other_at ps q i sealed u ne))
          (rehold d i (cond (nat_lt i w) q (q + 1)) i q (MineIs d q w i) (DoneIs i) (OtherIs d) (OtherIs d) (slice_index_or ps i u) refl
          (grind (arith, nat_tests, il, all))
          (λ v. (v.0, v.1, (λ x. v.3 (omega (arith, x, ne))))) (λ k v x. x) (j.each i u il)));
    }

    pub sealed_given : (y : ℕ) → times y (flat_map given_to (slice_set ps q sealed)) ≡ times y (flat_map given_to ps)
    sealed_given y =
        let s = times-set given_to ps q e sealed y room in
        let gs = (slice_index_or ps q e).guests.items in
        let m : times y (given_to sealed) ≡ times y (tasks_of (worker_view o.own)) + times y (flat_map guest_tasks gs) =
        times-append y (tasks_of (worker_view o.own)) (flat_map guest_tasks gs) in
        let n = times-append y (tasks_of (worker_view (slice_index_or ps q e).own)) (flat_map guest_tasks gs) in
        let k = new_view.2 y in
        omega (arith, s, m, n, k)

-- all deques are done
pub all_done : (d : Deques) (ps : List DequePass) → 0 < length d.ranges → Joined d 0 ps → (y : ℕ)
    → times y (flat_map given_to ps) ≡ cond (nat_lt y (total_of d.ranges)) 1 0
all_done d ps pos j = each_once given_to (total_of d.ranges) (length d.ranges) pos ps j.length_is (λ i y e lt.
    let h = j.each i e lt in
    let v : View = worker_view (slice_index_or ps i e).own in
    let gs = (slice_index_or ps i e).guests.items in
    let a = times-append y (tasks_of v) (flat_map guest_tasks gs) in
    let z = nothing_in gs y h.length_is in
    let b = below_times v.about.end y v.list in
    let en : v.about.end ≡ start_of (total_of d.ranges) (length d.ranges) (i + 1) = ap (λ (u : About). u.end) h.own.0.0 in
    let w = h.own.2 (omega arith) in
    dite (dec_lt y (start_of (total_of d.ranges) (length d.ranges) i))
    (λ lo. let n = h.own.0.2 y lo in grind (arith, nat_tests, a, z, b, en, n, lo))
    (λ lo. dite (dec_lt y (start_of (total_of d.ranges) (length d.ranges) (i + 1)))
    (λ hi. let n = w y (omega (arith, lo)) hi in grind (arith, nat_tests, a, z, b, en, n, lo, hi))
    (λ hi. grind (arith, nat_tests, a, z, b, en, lo, hi))))
  where
    nothing_in : {A : Type 0} (gs : List (Option (Pass ℕ View A))) (y : ℕ) → length gs ≡ 0 → times y (flat_map guest_tasks gs) ≡ 0
    nothing_in [] y e = refl
    nothing_in (g ∷ gs) y e = absurd (omega (arith, e))

-- who has ended has an end mark of its own deque
pub all_joined : (d : Deques) (ps : List DequePass) → 0 < length d.ranges → AreAll (length d.ranges) (IsPassOf d) number_of ps
    → HaveEnded has_ended ps → Joined d (length d.ranges) ps
all_joined d ps pos all ended =
    let len = all.0 in
    let one : DequePass = some_of ps (omega (arith, len, pos)) in
    record {
      sound = (all.1 0 one pos).0.sound;
      length_is = len;
      each = λ i e il.
          let p : DequePass = slice_index_or ps i e in
          let is = (all.1 i e il).0 in
          let num : p.number ≡ i = (all.1 i e il).1 in
          let put = is.ended (ended i e (omega (arith, il, len))) in
          rehold d p.number (length d.ranges) i (length d.ranges) (IsSeen d p.marked p.number)
          (λ v. IsPart d i v × (i < length d.ranges → (v.weight ≡ 1) × (1 ≤ marks v.about.end v.list))
          × (length d.ranges ≤ i → IsWhole d i v)) (IsSeen d p.marked) (OtherIs d) p num refl
          (λ v. (
            subst (λ k. IsPart d k (worker_view p.own)) num v.0,
            (λ lt. (v.1, (let m = v.2 ∙ ap (λ (b : Bool). cond b 1 0) put in omega (arith, m)))),
            (λ ge. absurd (omega (arith, ge, il))),
          ))
          (λ k v x. (x.0, x.1)) is.holds;
    }
