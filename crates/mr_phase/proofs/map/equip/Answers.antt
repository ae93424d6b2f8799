use Rattle.std.proofs.Common.{refl, arith}
use Rattle.mr_phase.proofs.Sorts.{gathers, one_longer}
use Rattle.mr_phase.proofs.map.equip.Goals as goal

pub loop-pass-preserved : goal.loop-pass-preserved
loop-pass-preserved g c =
    let inv = c.loop-pass.invariant in
    let p = c.in-Some.ensures in
    let n = one_longer _ _ _ p.0 in
    let k = one_longer _ _ _ c.push.ensures.items in
    let s = c.push.ensures.spare in
    let room = inv.1 in
    let spare = inv.2 in
    let more = p.1 in (
      gathers _ _ _ _ _ _ _ _ _ _ _ inv.0 p.0 c.in-Some-pop.ensures.0 c.push.ensures.items
          (c.len-in-Some.ensures, refl, refl, c.in_ok-with_room.ensures.0, refl),
      omega (arith, n, s, room),
      omega (arith, k, spare, more),
    )
