use Rattle.std.proofs.Common.{refl, sym, ap, ◌∙◌, subst, arith, ◌≡◌, ◌<◌, true, false, Some, None, length, slice_index_or}
use Rattle.std.proofs.lemmas.List.{get_or-set_other}
use Rattle.crossbeam_deque.specs.Handles.{view as pass_view, IsPassOf as IsGuestOf, stealer_deque, stealer_flavor}
use Rattle.mr_base.proofs.Bridge.{permuted}
use Rattle.mr_deques.specs.declared.passes.DequePass.{DequePass}
use Rattle.mr_deques.specs.Passes.{IsGuest, IsSeen}
use Rattle.mr_deques.proofs.Passing.{guest_same, guest_kept, guest_task, guest_given, guest_mark, guest_marked, refill, refill_is, no_none}
use Rattle.mr_deques.proofs.Passing.{guest_at, may_take, below_total, found_at}
use Rattle.mr_deques.proofs.take.steal_once.Goals as goal

pub returns-in_default-clause-same : goal.returns-in_default-clause-same
returns-in_default-clause-same c =
    let p = c.requires.pass.0 in
    let k = c.requires.place in
    let l = p.holds.length_is in
    let d = c.args.deques.now in
    let gs = c.args.pass.now.guests.items in
    absurd (no_none (IsSeen d c.args.pass.now.marked c.args.q)
    (stealer_deque (slice_index_or d.thieves.items c.args.q c.get-thief.result.now)) (slice_index_or gs c.args.q None)
    (p.holds.guest c.args.q c.get-thief.result.now k.0 k.1)
    (guest_at gs c.as_mut_slice-guests.result.now c.args.q c.index-guests-q.result None c.as_mut_slice-guests.ensures.value
    (omega (arith, l, k)) c.in_default.is))

pub steal-requires-clause-deque : goal.steal-requires-clause-deque
steal-requires-clause-deque c =
    let p = c.requires.pass.0 in
    let k = c.requires.place in
    let l = p.holds.length_is in
    let d = c.args.deques.now in
    let gs = c.args.pass.now.guests.items in
    let thief = found_at d.thieves.items c.args.q c.get-thief.result.now c.get-thief.ensures in
    let g_is = guest_at gs c.as_mut_slice-guests.result.now c.args.q c.index-guests-q.result
    (Some c.in-Some.guest) c.as_mut_slice-guests.ensures.value (omega (arith, l, k)) c.in-Some.is in
    let m = subst (IsGuest (IsSeen d c.args.pass.now.marked c.args.q)
    (stealer_deque (slice_index_or d.thieves.items c.args.q c.get-thief.result.now))) g_is
    (p.holds.guest c.args.q c.get-thief.result.now k.0 k.1) in (
      subst (λ t. IsGuestOf (stealer_deque t) c.in-Some.guest) (sym thief) m.0,
      ap stealer_flavor thief ∙ p.sound.1 c.args.q c.get-thief.result.now k.0,
    )

pub steal-requires-clause-may : goal.steal-requires-clause-may
steal-requires-clause-may c =
    let p = c.requires.pass.0 in
    let k = c.requires.place in
    let l = p.holds.length_is in
    let d = c.args.deques.now in
    let gs = c.args.pass.now.guests.items in
    let g_is = guest_at gs c.as_mut_slice-guests.result.now c.args.q c.index-guests-q.result
    (Some c.in-Some.guest) c.as_mut_slice-guests.ensures.value (omega (arith, l, k)) c.in-Some.is in
    let m = subst (IsGuest (IsSeen d c.args.pass.now.marked c.args.q)
    (stealer_deque (slice_index_or d.thieves.items c.args.q c.get-thief.result.now))) g_is
    (p.holds.guest c.args.q c.get-thief.result.now k.0 k.1) in
    may_take d c.args.pass.now.marked c.args.q (pass_view c.in-Some.guest) m.1 k.2

pub returns-in_default-steal-clause-same : goal.returns-in_default-steal-clause-same
returns-in_default-steal-clause-same c =
    let r = c.requires.pass in
    let k = c.requires.place in
    let l = r.0.holds.length_is in
    let d = c.args.deques.now in
    let p : DequePass = c.args.pass.now in
    let ys = c.as_mut_slice-guests.result.now in
    let same = c.as_mut_slice-guests.ensures.value in
    let g_is = guest_at p.guests.items ys c.args.q c.index-guests-q.result (Some c.in-Some.guest) same (omega (arith, l, k)) c.in-Some.is in
    let o_is = refill_is p ys c.args.q c.steal.new.guest same in
    let o : DequePass = refill p ys c.args.q c.steal.new.guest in (
      guest_same d p r.0 r.1 o c.args.q c.in-Some.guest c.steal.new.guest g_is o_is k.0 k.1 c.steal.ensures.same
          c.in_default-steal.ensures.took,
      refl,
      r.1,
      r.2,
    )

pub returns-in_default-steal-clause-none : goal.returns-in_default-steal-clause-none
returns-in_default-steal-clause-none c =
    let r = c.requires.pass in
    let k = c.requires.place in
    let l = r.0.holds.length_is in
    let d = c.args.deques.now in
    let p : DequePass = c.args.pass.now in
    let ys = c.as_mut_slice-guests.result.now in
    let same = c.as_mut_slice-guests.ensures.value in
    let g_is = guest_at p.guests.items ys c.args.q c.index-guests-q.result (Some c.in-Some.guest) same (omega (arith, l, k)) c.in-Some.is in
    let o_is = refill_is p ys c.args.q c.steal.new.guest same in
    let o : DequePass = refill p ys c.args.q c.steal.new.guest in
    guest_kept d p r.0 r.1 o c.args.q c.in-Some.guest c.steal.new.guest g_is o_is k.0 k.1 c.steal.ensures.same
    c.in_default-steal.ensures.took

pub returns-then-x-end-clause-same : goal.returns-then-x-end-clause-same
returns-then-x-end-clause-same c =
    let r = c.requires.pass in
    let k = c.requires.place in
    let l = r.0.holds.length_is in
    let d = c.args.deques.now in
    let p : DequePass = c.args.pass.now in
    let ys = c.as_mut_slice-guests.result.now in
    let same = c.as_mut_slice-guests.ensures.value in
    let g_is = guest_at p.guests.items ys c.args.q c.index-guests-q.result (Some c.in-Some.guest) same (omega (arith, l, k)) c.in-Some.is in
    let o_is = refill_is p ys c.args.q c.steal.new.guest same in
    let o : DequePass = refill p ys c.args.q c.steal.new.guest in
    let end = c.range-end.ensures.even.1 in
    let lt = c.if-x-end.true in (
      guest_task d p r.0 r.1 o c.args.q c.in-Some.guest c.steal.new.guest g_is o_is k.0 k.1 c.steal.ensures.same c.in-Some-steal.x k.2
          c.in-Some-steal.ensures.took (omega (arith, end, lt)),
      refl,
      r.1,
      r.2,
    )

pub returns-then-x-end-clause-some : goal.returns-then-x-end-clause-some
returns-then-x-end-clause-some c =
    let r = c.requires.pass in
    let k = c.requires.place in
    let l = r.0.holds.length_is in
    let d = c.args.deques.now in
    let p : DequePass = c.args.pass.now in
    let ys = c.as_mut_slice-guests.result.now in
    let same = c.as_mut_slice-guests.ensures.value in
    let g_is = guest_at p.guests.items ys c.args.q c.index-guests-q.result (Some c.in-Some.guest) same (omega (arith, l, k)) c.in-Some.is in
    let o_is = refill_is p ys c.args.q c.steal.new.guest same in
    let o : DequePass = refill p ys c.args.q c.steal.new.guest in
    let end = c.range-end.ensures.even.1 in
    let lt = c.if-x-end.true in (
      below_total d c.args.q c.in-Some-steal.x k.0 (omega (arith, end, lt)),
      permuted _ _ (λ y. sym (guest_given d p r.0 r.1 o c.args.q c.in-Some.guest c.steal.new.guest g_is o_is k.0 k.1 c.steal.ensures.same
          c.in-Some-steal.x k.2 c.in-Some-steal.ensures.took y (omega (arith, end, lt)))),
    )

pub returns-clause-same : goal.returns-clause-same
returns-clause-same c =
    let r = c.requires.pass in
    let k = c.requires.place in
    let l = r.0.holds.length_is in
    let d = c.args.deques.now in
    let p : DequePass = c.args.pass.now in
    let ys = c.as_mut_slice-guests.result.now in
    let same = c.as_mut_slice-guests.ensures.value in
    let g_is = guest_at p.guests.items ys c.args.q c.index-guests-q.result (Some c.in-Some.guest) same (omega (arith, l, k)) c.in-Some.is in
    let o_is = refill_is p ys c.args.q c.steal.new.guest same in
    let o : DequePass = refill p ys c.args.q c.steal.new.guest in
    let end = c.range-end.ensures.even.1 in
    let no = c.if-x-end.false in (
      guest_mark d p r.0 r.1 o c.args.q c.in-Some.guest c.steal.new.guest g_is o_is k.0 k.1 c.steal.ensures.same c.in-Some-steal.x k.2
          c.in-Some-steal.ensures.took (omega (arith, end, no)) d.few.1,
      refl,
      r.1,
      get_or-set_other p.marked c.args.q p.number true false (λ e. k.1 (sym e)) ∙ r.2,
    )

pub returns-clause-none : goal.returns-clause-none
returns-clause-none c =
    let r = c.requires.pass in
    let k = c.requires.place in
    let l = r.0.holds.length_is in
    let d = c.args.deques.now in
    let p : DequePass = c.args.pass.now in
    let ys = c.as_mut_slice-guests.result.now in
    let same = c.as_mut_slice-guests.ensures.value in
    let g_is = guest_at p.guests.items ys c.args.q c.index-guests-q.result (Some c.in-Some.guest) same (omega (arith, l, k)) c.in-Some.is in
    let o_is = refill_is p ys c.args.q c.steal.new.guest same in
    let o : DequePass = refill p ys c.args.q c.steal.new.guest in
    let end = c.range-end.ensures.even.1 in
    let no = c.if-x-end.false in
    guest_marked d p r.0 r.1 o c.args.q c.in-Some.guest c.steal.new.guest g_is o_is k.0 k.1 c.steal.ensures.same c.in-Some-steal.x k.2
    c.in-Some-steal.ensures.took (omega (arith, end, no))
