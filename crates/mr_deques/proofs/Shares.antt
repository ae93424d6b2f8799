-- The deques are shared out.
use Rattle.std.proofs.Common.{flat_map, ◌≡◌, ◌≢◌, ℕ, suc, ◌+◌, ◌-◌, ◌<◌, ◌≤◌, Bool, true, false, true≢false, cond, nat_lt, List, [], ◌∷◌}
use Rattle.std.proofs.Common.{◌++◌, length, length-set, slice_index_or, slice_set, Option, Some, None, refl, sym, ap, ◌∙◌, arith, subst}
use Rattle.std.proofs.lemmas.Bool.Decides.{nat_tests}
use Rattle.std.proofs.lemmas.List.{get_or-set_same}
use mathlib.Core.Logic.{dite}
use native.Mathlib.Decide.{dec_lt, ℕ_discrete}
use Rattle.atomic_blocks.specs.Lent.{RowsId}
use Rattle.crossbeam_deque.specs.Handles.{Pass, view as pass_view, IsPassOf as IsGuestOf, SameWorker, worker_deque, worker_flavor}
use Rattle.crossbeam_deque.specs.Handles.{worker_view, stealer_deque, stealer_flavor}
use Rattle.mr_base.specs.Tasks.{total_of, times, start_of}
use Rattle.mr_deques.specs.declared.view.View.{View}
use Rattle.mr_deques.specs.declared.deques.Deques.{Deques}
use Rattle.mr_deques.specs.declared.passes.DequePass.{DequePass}
use Rattle.mr_deques.specs.Lawful.{view, about, marks}
use Rattle.mr_deques.specs.Passes.{below, tasks_of, guest_tasks, given_to, IsPart, IsSeen, IsGuest, Holds, IsPassOf}
use Rattle.mr_deques.specs.Phases.{Sharing}
use Rattle.mr_base.proofs.Passes.{at_last, at_before, length-push, each_push}
use Rattle.mr_deques.proofs.Counts.{some_of, at_past}
use Rattle.mr_deques.proofs.Passing.{given_apart}
use Rattle.mr_deques.proofs.Joins.{rehold, other_at}

-- the predicates of the record
abbrev pub NewIs : Deques → ℕ → ℕ → ℕ → View → Type 0
NewIs d q w i v = IsPart d i v × (v.list ≡ []) × (i < q → v.weight ≡ 1) × (i ≡ q → v.weight + w ≡ length d.ranges + cond (nat_lt q w) 1 0)
    × (q < i → v.weight ≡ length d.ranges)

abbrev pub NewGuest : Deques → ℕ → View → Type 0
NewGuest d j v = IsPart d j v × (v.list ≡ []) × (v.weight ≡ 1)

-- a pass with one view more
grown : (d : Deques) (i q : ℕ) (Own : View → Type 0) (p o : DequePass) (g : _) → Holds d i q Own (NewGuest d) p
    → o.guests.items ≡ p.guests.items ++ g ∷ [] → (i ≡ q → g ≡ None)
    → ((t : _) → i ≢ q → IsGuest (NewGuest d q) (stealer_deque (slice_index_or d.thieves.items q t)) g)
    → Holds d i (q + 1) Own (NewGuest d) (record p { guests = o.guests })
grown d i q Own p o g h is none some_ =
    let l = h.length_is in
    let a = ap length is in let b = length-push p.guests.items g in
    let before : (k : ℕ) → k < q → slice_index_or o.guests.items k None ≡ slice_index_or p.guests.items k None =
    (λ k lt. ap (λ x. slice_index_or x k None) is ∙ at_before p.guests.items g None k (omega (arith, l, lt))) in
    let last : slice_index_or o.guests.items q None ≡ g = ap (λ x. slice_index_or x q None) is
    ∙ (ap (λ k. slice_index_or (p.guests.items ++ g ∷ []) k None) (sym l) ∙ at_last p.guests.items g None) in
    record {
      number = h.number;
      wide = h.wide;
      length_is = omega (arith, a, b, l);
      deque = h.deque;
      flavor = h.flavor;
      own = h.own;
      gap = dite (dec_lt i q) (λ lt. before i lt ∙ h.gap) (λ ge. dite (ℕ_discrete i q)
          (λ e. subst (λ k. slice_index_or o.guests.items k None ≡ None) (sym e) (last ∙ none e))
          (λ ne. at_past o.guests.items None i (omega (arith, a, b, l, ge, ne))));
      guest = λ k t lt ne. dite (dec_lt k q)
          (λ lo. subst (IsGuest (NewGuest d k) (stealer_deque (slice_index_or d.thieves.items k t))) (sym (before k lo))
          (h.guest k t lo ne))
          (λ ge. let e : k ≡ q = omega (arith, ge, lt) in
          let at_q = subst (IsGuest (NewGuest d q) (stealer_deque (slice_index_or d.thieves.items q t))) (sym last)
          (some_ t (λ x. ne (e ∙ sym x))) in
          subst (λ j. IsGuest (NewGuest d j) (stealer_deque (slice_index_or d.thieves.items j t)) (slice_index_or o.guests.items j None))
          (sym e) at_q);
    }

module _ (d : Deques) (q w : ℕ) (ps : List DequePass) (s : Sharing d q w ps) (wl : w < length d.ranges) (ql : q < length d.ranges) where
  room_w : w < length ps
  room_w = let l = s.length_is in omega (arith, l, wl)

  room_q : q < length ps
  room_q = let l = s.length_is in omega (arith, l, ql)

  -- the pass that owns the deque gets a gap
  module _ (e o : DequePass) (own : w ≡ q) (is : o.guests.items ≡ (slice_index_or ps w e).guests.items ++ None ∷ []) where
    abbrev gapped : DequePass
    gapped = record (slice_index_or ps w e) { guests = o.guests }

    gapped_holds : Holds d w (q + 1) (NewIs d q (w + 1) w) (NewGuest d) gapped
    gapped_holds =
        let h = rehold d w (cond (nat_lt w w) (q + 1) q) w q (NewIs d q w w) (NewIs d q (w + 1) w) (NewGuest d) (NewGuest d)
        (slice_index_or ps w e) refl (grind (arith, nat_tests))
        (λ v. (v.0, v.1, v.2, (λ x. let z = v.3 x in grind (arith, nat_tests, z, own)), v.4)) (λ k v x. x) (s.each w e wl) in
        grown d w q (NewIs d q (w + 1) w) (slice_index_or ps w e) o None h is (λ x. refl) (λ t ne. absurd (ne own))

    pub gap_sharing : Sharing d q (w + 1) (slice_set ps w gapped)
    gap_sharing = record {
      sound = s.sound;
      length_is = length-set ps w gapped ∙ s.length_is;
      each = λ i u il. dite (ℕ_discrete i w)
          (λ x. subst (λ k. Holds d k (cond (nat_lt k (w + 1)) (q + 1) q) (NewIs d q (w + 1) k) (NewGuest d)
          (slice_index_or (slice_set ps w gapped) k u)) (sym x)
          (subst (Holds d w (cond (nat_lt w (w + 1)) (q + 1) q) (NewIs d q (w + 1) w) (NewGuest d))
          (sym (get_or-set_same ps w gapped u room_w))
          (subst (λ n. Holds d w n (NewIs d q (w + 1) w) (NewGuest d) gapped) (grind (arith, nat_tests)) gapped_holds)))
          (λ ne. subst (Holds d i (cond (nat_lt i (w + 1)) (q + 1) q) (NewIs d q (w + 1) i) (NewGuest d))
          (sym (other_at ps w i gapped u ne))
          (rehold d i (cond (nat_lt i w) (q + 1) q) i (cond (nat_lt i (w + 1)) (q + 1) q) (NewIs d q w i) (NewIs d q (w + 1) i)
          (NewGuest d) (NewGuest d) (slice_index_or ps i u) refl (grind (arith, nat_tests, ne))
          (λ v. (v.0, v.1, v.2, (λ x. absurd (ne (x ∙ sym own))), v.4)) (λ k v x. x) (s.each i u il)));
      unused = λ i u il. dite (ℕ_discrete i w)
          (λ x. subst (λ (p : DequePass). (p.ended ≡ false) × ((j : ℕ) → slice_index_or p.marked j false ≡ false))
          (sym (ap (λ k. slice_index_or (slice_set ps w gapped) k u) x ∙ get_or-set_same ps w gapped u room_w)) (s.unused w e wl))
          (λ ne. subst (λ (p : DequePass). (p.ended ≡ false) × ((j : ℕ) → slice_index_or p.marked j false ≡ false))
          (sym (other_at ps w i gapped u ne)) (s.unused i u il));
    }

  -- another pass gets a view of it
  module _ (e : DequePass) (ne : w ≢ q) where
    at_q : Holds d q (cond (nat_lt q w) (q + 1) q) (NewIs d q w q) (NewGuest d) (slice_index_or ps q e)
    at_q = s.each q e ql

    pub can_part : let v = worker_view (slice_index_or ps q e).own in (v.full ≡ true) × (2 ≤ v.weight) × (v.list ≡ [])
    can_part = let v = at_q.own in (v.0.1, (let z = v.3 refl in grind (arith, nat_tests, z, ne, wl, ql)), v.1)

    module _ (r : DequePass) (g : _) (same : SameWorker (slice_index_or ps q e).own r.own)
        (of : IsGuestOf {T = ℕ} (worker_deque (slice_index_or ps q e).own) g)
        (views : let v = worker_view (slice_index_or ps q e).own in
        (worker_view r.own ≡ view v.about v.pushed (v.weight - 1) v.list true) × (pass_view g ≡ view v.about v.pushed 1 [] true)) where
      abbrev parted : DequePass
      parted = record (slice_index_or ps q e) { own = r.own }

      parted_holds : Holds d q (cond (nat_lt q w) (q + 1) q) (NewIs d q (w + 1) q) (NewGuest d) parted
      parted_holds =
          let h = at_q in
          let v = h.own in
          let two = can_part.1 in
          let mine : NewIs d q (w + 1) q (worker_view r.own) = subst (NewIs d q (w + 1) q) (sym views.0) (
            (v.0.0, refl, v.0.2),
            v.1,
            (λ lt. absurd (omega (arith, lt))),
            (λ x. let z = v.3 refl in grind (arith, nat_tests, z, ne, two)),
            (λ lt. absurd (omega (arith, lt))),
          ) in
          record {
            number = h.number;
            wide = h.wide;
            length_is = h.length_is;
            deque = λ t. same.0 ∙ h.deque t;
            flavor = same.1 ∙ h.flavor;
            own = mine;
            gap = h.gap;
            guest = h.guest;
          }

      new_guest : (t : _) → IsGuest (NewGuest d q) (stealer_deque (slice_index_or d.thieves.items q t)) (Some g)
      new_guest t =
          let v = at_q.own in
          (subst (λ x. IsGuestOf x g) (at_q.deque t) of, subst (NewGuest d q) (sym views.1) ((v.0.0, refl, λ y lt. refl), refl, refl))

      module _ (f o : DequePass) (is : o.guests.items ≡ (slice_index_or (slice_set ps q parted) w f).guests.items ++ Some g ∷ []) where
        abbrev guested : DequePass
        guested = record (slice_index_or (slice_set ps q parted) w f) { guests = o.guests }

        now_w : slice_index_or (slice_set ps q parted) w f ≡ slice_index_or ps w f
        now_w = other_at ps q w parted f ne

        guested_holds : Holds d w (q + 1) (NewIs d q (w + 1) w) (NewGuest d) guested
        guested_holds =
            let h0 = rehold d w (cond (nat_lt w w) (q + 1) q) w q (NewIs d q w w) (NewIs d q (w + 1) w) (NewGuest d) (NewGuest d)
            (slice_index_or ps w f) refl (grind (arith, nat_tests))
            (λ v. (v.0, v.1, v.2, (λ x. absurd (ne x)), v.4)) (λ k v x. x) (s.each w f wl) in
            let h = subst (Holds d w q (NewIs d q (w + 1) w) (NewGuest d)) (sym now_w) h0 in
            grown d w q (NewIs d q (w + 1) w) (slice_index_or (slice_set ps q parted) w f) o (Some g) h is (λ x. absurd (ne x))
            (λ t n. new_guest t)

        room_w' : w < length (slice_set ps q parted)
        room_w' = let l = length-set ps q parted in let m = s.length_is in omega (arith, l, m, wl)

        pub some_sharing : Sharing d q (w + 1) (slice_set (slice_set ps q parted) w guested)
        some_sharing = record {
          sound = s.sound;
          length_is = length-set (slice_set ps q parted) w guested ∙ length-set ps q parted ∙ s.length_is;
          each = λ i u il. dite (ℕ_discrete i w)
              (λ x. subst (λ k. Holds d k (cond (nat_lt k (w + 1)) (q + 1) q) (NewIs d q (w + 1) k) (NewGuest d)
              (slice_index_or (slice_set (slice_set ps q parted) w guested) k u)) (sym x)
              (subst (Holds d w (cond (nat_lt w (w + 1)) (q + 1) q) (NewIs d q (w + 1) w) (NewGuest d))
              (sym (get_or-set_same (slice_set ps q parted) w guested u room_w'))
              (subst (λ n. Holds d w n (NewIs d q (w + 1) w) (NewGuest d) guested) (grind (arith, nat_tests)) guested_holds)))
              (λ nw. subst (Holds d i (cond (nat_lt i (w + 1)) (q + 1) q) (NewIs d q (w + 1) i) (NewGuest d))
              (sym (other_at (slice_set ps q parted) w i guested u nw))
              (dite (ℕ_discrete i q)
              (λ x. subst (λ k. Holds d k (cond (nat_lt k (w + 1)) (q + 1) q) (NewIs d q (w + 1) k) (NewGuest d)
              (slice_index_or (slice_set ps q parted) k u)) (sym x)
              (subst (Holds d q (cond (nat_lt q (w + 1)) (q + 1) q) (NewIs d q (w + 1) q) (NewGuest d))
              (sym (get_or-set_same ps q parted u room_q))
              (subst (λ n. Holds d q n (NewIs d q (w + 1) q) (NewGuest d) parted) (grind (arith, nat_tests, ne)) parted_holds)))
              (λ nq. subst (Holds d i (cond (nat_lt i (w + 1)) (q + 1) q) (NewIs d q (w + 1) i) (NewGuest d))
              (sym (other_at ps q i parted u nq))
              (rehold d i (cond (nat_lt i w) (q + 1) q) i (cond (nat_lt i (w + 1)) (q + 1) q) (NewIs d q w i) (NewIs d q (w + 1) i)
              (NewGuest d) (NewGuest d) (slice_index_or ps i u) refl (grind (arith, nat_tests, nw))
              (λ v. (v.0, v.1, v.2, (λ x. absurd (nq x)), v.4)) (λ k v x. x) (s.each i u il)))));
          unused = λ i u il. dite (ℕ_discrete i w)
              (λ x. subst (λ (p : DequePass). (p.ended ≡ false) × ((j : ℕ) → slice_index_or p.marked j false ≡ false))
              (sym (ap (λ k. slice_index_or (slice_set (slice_set ps q parted) w guested) k u) x
              ∙ get_or-set_same (slice_set ps q parted) w guested u room_w'))
              (subst (λ (p : DequePass). (p.ended ≡ false) × ((j : ℕ) → slice_index_or p.marked j false ≡ false)) (sym now_w)
              (s.unused w f wl)))
              (λ nw. subst (λ (p : DequePass). (p.ended ≡ false) × ((j : ℕ) → slice_index_or p.marked j false ≡ false))
              (sym (other_at (slice_set ps q parted) w i guested u nw))
              (dite (ℕ_discrete i q)
              (λ x. subst (λ (p : DequePass). (p.ended ≡ false) × ((j : ℕ) → slice_index_or p.marked j false ≡ false))
              (sym (ap (λ k. slice_index_or (slice_set ps q parted) k u) x ∙ get_or-set_same ps q parted u room_q)) (s.unused q e ql))
              (λ nq. subst (λ (p : DequePass). (p.ended ≡ false) × ((j : ℕ) → slice_index_or p.marked j false ≡ false))
              (sym (other_at ps q i parted u nq)) (s.unused i u il))));
        }

-- the next deque
pub next_sharing : (d : Deques) (q w : ℕ) (ps : List DequePass) → Sharing d q w ps → w ≡ length d.ranges → q < length d.ranges
    → Sharing d (q + 1) 0 ps
next_sharing d q w ps s all ql = record {
  sound = s.sound;
  length_is = s.length_is;
  each = λ i e il. rehold d i (cond (nat_lt i w) (q + 1) q) i (cond (nat_lt i 0) ((q + 1) + 1) (q + 1)) (NewIs d q w i)
      (NewIs d (q + 1) 0 i) (NewGuest d) (NewGuest d) (slice_index_or ps i e) refl (grind (arith, nat_tests, il, all))
      (λ v. (
        v.0,
        v.1,
        (λ lt. dite (dec_lt i q) v.2
            (λ ge. let x : i ≡ q = omega (arith, ge, lt) in let z = v.3 x in grind (arith, nat_tests, z, all, ql))),
        (λ x. let z = v.4 (omega (arith, x)) in grind (arith, nat_tests, z)),
        (λ lt. v.4 (omega (arith, lt))),
      )) (λ k v x. x) (s.each i e il);
  unused = s.unused;
}

-- all are shared out
module _ (d : Deques) (ps : List DequePass) (s : Sharing d (length d.ranges) 0 ps) (i : ℕ) (e : DequePass) (il : i < length d.ranges) where
  held : Holds d i (length d.ranges) (NewIs d (length d.ranges) 0 i) (NewGuest d) (slice_index_or ps i e)
  held = rehold d i (cond (nat_lt i 0) (length d.ranges + 1) (length d.ranges)) i (length d.ranges) (NewIs d (length d.ranges) 0 i)
      (NewIs d (length d.ranges) 0 i) (NewGuest d) (NewGuest d) (slice_index_or ps i e) refl (grind (arith, nat_tests)) (λ x. x)
      (λ k v x. x) (s.each i e il)

  seen_new : (m : List Bool) (k : ℕ) (v : View) → ((j : ℕ) → slice_index_or m j false ≡ false) → IsPart d k v → v.list ≡ [] → v.weight ≡ 1
      → IsSeen d m k v
  seen_new m k v unmarked part none one = (
    part,
    one,
    ap (marks v.about.end) none ∙ sym (ap (λ (b : Bool). cond b 1 0) (unmarked k)),
    λ y. let z : times y v.list ≡ 0 = ap (times y) none in omega (arith, z),
  )

  pub is_pass : IsPassOf d (slice_index_or ps i e) × ((slice_index_or ps i e).number ≡ i)
  is_pass =
      let p : DequePass = slice_index_or ps i e in
      let u = s.unused i e il in
      let num : p.number ≡ i = held.number in
      let h : Holds d p.number (length d.ranges) (IsSeen d p.marked p.number) (IsSeen d p.marked) p = rehold d i (length d.ranges) p.number
      (length d.ranges) (NewIs d (length d.ranges) 0 i) (IsSeen d p.marked p.number) (NewGuest d) (IsSeen d p.marked) p (sym num) refl
      (λ v. subst (λ k. IsSeen d p.marked k (worker_view p.own)) (sym num) (seen_new p.marked i (worker_view p.own) u.1 v.0 v.1 (v.2 il)))
      (λ k v x. seen_new p.marked k v u.1 x.0 x.1 x.2) held in
      let lt : p.number < length d.ranges = omega (arith, num, il) in (
        record {
          sound = s.sound;
          number = lt;
          holds = h;
          apart = given_apart d p s.sound lt h;
          ended = λ x. absurd (true≢false (sym x ∙ u.0));
        },
        num,
      )

  pub is_unused : (given_to (slice_index_or ps i e) ≡ []) × ((slice_index_or ps i e).ended ≡ false)
  is_unused =
      let p : DequePass = slice_index_or ps i e in
      let u = s.unused i e il in
      let t = some_of d.thieves.items (let l = s.sound.0 in omega (arith, l, il)) in
      let a : tasks_of (worker_view p.own) ≡ [] = ap (below (worker_view p.own).about.end) held.own.1 in
      let b : flat_map guest_tasks p.guests.items ≡ [] = no_tasks p.guests.items (λ j jl. dite (ℕ_discrete j i)
      (λ x. ap (λ k. guest_tasks (slice_index_or p.guests.items k None)) x ∙ ap guest_tasks held.gap)
      (λ ne. empty_guest (stealer_deque (slice_index_or d.thieves.items j t)) j (slice_index_or p.guests.items j None)
      (held.guest j t (let l = held.length_is in omega (arith, l, jl)) ne))) in
      (ap (λ l. l ++ flat_map guest_tasks p.guests.items) a ∙ b, u.0)
    where
      no_tasks : {A : Type 0} (gs : List (Option (Pass ℕ View A)))
          → ((j : ℕ) → j < length gs → guest_tasks (slice_index_or gs j None) ≡ []) → flat_map guest_tasks gs ≡ []
      no_tasks [] h = refl
      no_tasks (g ∷ gs) h = ap (λ l. l ++ flat_map guest_tasks gs) (h 0 (omega arith)) ∙ no_tasks gs (λ j jl. h (suc j) (omega (arith, jl)))

      empty_guest : {A : Type 0} (deque : RowsId × A) (j : ℕ) (o : Option (Pass ℕ View A)) → IsGuest (NewGuest d j) deque o
          → guest_tasks o ≡ []
      empty_guest deque j None h = absurd h
      empty_guest deque j (Some g) h = ap (below (pass_view g).about.end) h.1.1

-- a pass whose deque has just been filled
abbrev pub IsFresh : ℕ → ℕ → ℕ → DequePass → Type 0
IsFresh tasks queues i p = (p.number ≡ i) × (length p.marked ≡ 32) × (p.guests.items ≡ []) × (worker_flavor p.own ≡ 0) × (p.ended ≡ false)
    × (worker_view p.own ≡ view (about (start_of tasks queues i) (start_of tasks queues (i + 1)) queues)
    (start_of tasks queues (i + 1) + queues) queues [] true)
    × ((j : ℕ) → slice_index_or p.marked j false ≡ false)

-- the deques have just been filled
pub fresh_sharing : (d : Deques) (ps : List DequePass) (small : 0 < length d.ranges) → length d.thieves.items ≡ length d.ranges
    → length ps ≡ length d.ranges → ((i : ℕ) (t : _) → i < length d.ranges → stealer_flavor (slice_index_or d.thieves.items i t) ≡ 0)
    → ((i : ℕ) (e : DequePass) (t : _) → i < length d.ranges
    → IsFresh (total_of d.ranges) (length d.ranges) i (slice_index_or ps i e)
    × (worker_deque (slice_index_or ps i e).own ≡ stealer_deque (slice_index_or d.thieves.items i t)))
    → Sharing d 0 0 ps
fresh_sharing d ps pos len len' flavors each =
    let th = some_of d.thieves.items (omega (arith, len, pos)) in
    record {
      sound = (len, flavors);
      length_is = len';
      each = λ i e il.
          let p : DequePass = slice_index_or ps i e in
          let f = (each i e th il).0 in
          let v = f.5 in
          let no_guests : slice_index_or p.guests.items i None ≡ None = ap (λ l. slice_index_or l i None) f.2 in
          let mine : NewIs d 0 0 i (worker_view p.own) = subst (NewIs d 0 0 i) (sym v)
          ((refl, refl, λ y lt. refl), refl, (λ lt. absurd (omega (arith, lt))), (λ x. grind (arith, nat_tests)), (λ lt. refl)) in
          record {
            number = f.0;
            wide = f.1;
            length_is = (let z : 0 ≡ cond (nat_lt i 0) (0 + 1) 0 = grind (arith, nat_tests) in ap length f.2 ∙ z);
            deque = λ t. (each i e t il).1;
            flavor = f.3;
            own = mine;
            gap = no_guests;
            guest = λ k t lt ne. absurd (let z : cond (nat_lt i 0) (0 + 1) 0 ≡ 0 = grind (arith, nat_tests) in omega (arith, lt, z));
          };
      unused = λ i e il. let f = (each i e th il).0 in (f.4, f.6);
    }

-- what holds of each pass and its thief still holds with one more of both
pub push_both : {X Y : Type 0} (P : ℕ → X → Y → Type 0) (xs : List X) (ys : List Y) (x : X) (y : Y) (q : ℕ) → length xs ≡ q → length ys ≡ q
    → ((i : ℕ) (e : X) (f : Y) → i < q → P i (slice_index_or xs i e) (slice_index_or ys i f)) → P q x y
    → (i : ℕ) (e : X) (f : Y) → i < q + 1 → P i (slice_index_or (xs ++ x ∷ []) i e) (slice_index_or (ys ++ y ∷ []) i f)
push_both P xs ys x y q len len' old new i e f lt =
    each_push (λ k u. P k u (slice_index_or (ys ++ y ∷ []) k f)) q xs x len
    (λ k u lo. subst (P k (slice_index_or xs k u)) (sym (at_before ys y f k (omega (arith, lo, len')))) (old k u f lo))
    (subst (P q x) (sym (ap (λ k. slice_index_or (ys ++ y ∷ []) k f) (sym len') ∙ at_last ys y f)) new) i e lt
