use Rattle.mr_deques.specs.declared.passes.DequePass.{DequePass}
use Rattle.mr_deques.proofs.Joins.{has_last, none_joining, none_given, guest_of, owner_full, some_joining, some_given}
use Rattle.mr_deques.proofs.gather.give_back.Goals as goal

pub pop_guest-requires : goal.pop_guest-requires
pop_guest-requires c = has_last c.args.deques.now c.args.q c.args.w c.args.all.now c.requires.joining c.requires.places.0
    c.requires.places.1 c.index-all-w.result

pub returns-in_default-clause-joining : goal.returns-in_default-clause-joining
returns-in_default-clause-joining c = none_joining c.args.deques.now c.args.q c.args.w c.args.all.now c.requires.joining
    c.requires.places.0 c.requires.places.1 c.index-all-w.result c.pop_guest.new.pass c.pop_guest.result c.pop_guest.ensures.popped
    c.pop_guest.ensures.same c.in_default.is

pub returns-in_default-clause-given : goal.returns-in_default-clause-given
returns-in_default-clause-given c = none_given c.args.deques.now c.args.q c.args.w c.args.all.now c.requires.joining c.requires.places.0
    c.requires.places.1 c.index-all-w.result c.pop_guest.new.pass c.pop_guest.result c.pop_guest.ensures.popped c.pop_guest.ensures.same
    c.in_default.is

pub take_back-requires-clause-deque : goal.take_back-requires-clause-deque
take_back-requires-clause-deque c = (guest_of c.args.deques.now c.args.q c.args.w c.args.all.now c.requires.joining c.requires.places.0
    c.requires.places.1 c.index-all-w.result c.pop_guest.new.pass c.pop_guest.result c.pop_guest.ensures.popped c.pop_guest.ensures.same
    c.in-Some.guest c.in-Some.is c.index-all-q.result).0

pub take_back-requires-clause-full : goal.take_back-requires-clause-full
take_back-requires-clause-full c =
    let o = owner_full c.args.deques.now c.args.q c.args.w c.args.all.now c.requires.joining c.requires.places.0 c.requires.places.1
    c.index-all-w.result c.pop_guest.new.pass c.pop_guest.result c.pop_guest.ensures.popped c.pop_guest.ensures.same c.in-Some.guest
    c.in-Some.is c.index-all-q.result in (
      o.0,
      o.1,
      (guest_of c.args.deques.now c.args.q c.args.w c.args.all.now c.requires.joining c.requires.places.0 c.requires.places.1
          c.index-all-w.result c.pop_guest.new.pass c.pop_guest.result c.pop_guest.ensures.popped c.pop_guest.ensures.same c.in-Some.guest
          c.in-Some.is c.index-all-q.result).1,
    )

pub returns-clause-joining : goal.returns-clause-joining
returns-clause-joining c =
    let r : DequePass = record c.index-all-q.result { own = c.take_back.new.owner } in
    some_joining c.args.deques.now c.args.q c.args.w c.args.all.now c.requires.joining c.requires.places.0 c.requires.places.1
    c.index-all-w.result c.pop_guest.new.pass c.pop_guest.result c.pop_guest.ensures.popped c.pop_guest.ensures.same c.in-Some.guest
    c.in-Some.is c.index-all-q.result r c.take_back.ensures.same c.take_back.ensures.views

pub returns-clause-given : goal.returns-clause-given
returns-clause-given c =
    let r : DequePass = record c.index-all-q.result { own = c.take_back.new.owner } in
    some_given c.args.deques.now c.args.q c.args.w c.args.all.now c.requires.joining c.requires.places.0 c.requires.places.1
    c.index-all-w.result c.pop_guest.new.pass c.pop_guest.result c.pop_guest.ensures.popped c.pop_guest.ensures.same c.in-Some.guest
    c.in-Some.is c.index-all-q.result r c.take_back.ensures.same c.take_back.ensures.views
