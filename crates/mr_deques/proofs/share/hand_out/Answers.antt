use Rattle.mr_deques.specs.declared.passes.DequePass.{DequePass}
use Rattle.mr_deques.proofs.Shares.{gap_sharing, can_part, some_sharing}
use Rattle.mr_deques.proofs.share.hand_out.Goals as goal

pub returns-then-w-q : goal.returns-then-w-q
returns-then-w-q c =
    let o : DequePass = record c.index-all-w.result { guests = c.add.new.guests } in
    gap_sharing c.args.deques.now c.args.q c.args.w c.args.all.now c.requires.sharing c.requires.places.0 c.requires.places.1
    c.index-all-w.result o c.if-w-q.true c.in_ok-add.ensures

pub cut_off-guest-requires : goal.cut_off-guest-requires
cut_off-guest-requires c = can_part c.args.deques.now c.args.q c.args.w c.args.all.now c.requires.sharing c.requires.places.0
    c.requires.places.1 c.index-all-q.result c.if-w-q.false

pub returns : goal.returns
returns c =
    let r : DequePass = record c.index-all-q.result { own = c.cut_off-guest.new.owner } in
    let o : DequePass = record c.index-all-q.result { guests = c.add-2.new.guests } in
    some_sharing c.args.deques.now c.args.q c.args.w c.args.all.now c.requires.sharing c.requires.places.0 c.requires.places.1
    c.index-all-q.result c.if-w-q.false r c.cut_off-guest.result c.cut_off-guest.ensures.same.0 c.cut_off-guest.ensures.same.2
    c.cut_off-guest.ensures.views c.index-all-w-2.result o c.in_ok-add-2.ensures
