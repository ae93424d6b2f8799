use Rattle.std.proofs.Common.{arith, ◌<◌, subst, sym, ap, ◌∙◌, length, get_or}
use Rattle.mr_hash.specs.Slots.{IsFree}
use Rattle.mr_hash.proofs.Indexing.{free_here, room_found}
use Rattle.mr_hash.proofs.slots.free_slot.Goals as goal

pub returns-then-index-at-eq0 : goal.returns-then-index-at-eq0
returns-then-index-at-eq0 c =
    let is = c.slot_at-at.ensures.slot in
    subst (IsFree (length c.args.index.now) c.args.shift c.args.index.now c.args.code) (sym is)
    (free_here c.args.shift c.args.index.now c.args.code c.loop-distance.distance c.loop-distance-test.true
    (subst (λ s. s < length c.args.index.now) is c.slot_at-at.ensures.within) c.loop-distance.invariant
    (ap (λ s. get_or c.args.index.now s 0) (sym is) ∙ c.if-index-at-eq0.true))

pub returns : goal.returns
returns c = absurd (room_found c.args.shift c.args.index.now c.args.code c.requires.room
    (λ distance l. c.loop-distance.invariant distance (omega (arith, l, c.loop-distance-test.false))))
