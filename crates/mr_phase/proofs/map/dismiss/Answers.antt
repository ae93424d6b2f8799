use Rattle.std.proofs.Common.{arith}
use Rattle.mr_phase.proofs.Sorts.{scatters_at, scattered, one_longer}
use Rattle.mr_phase.proofs.map.dismiss.Goals as goal

pub loop-work-preserved : goal.loop-work-preserved
loop-work-preserved g c =
    let inv = c.loop-work.invariant in
    let w = c.in-Some.ensures in
    let n = one_longer _ _ _ w.0 in
    let s = c.push.ensures.spare in
    let s' = c.push-in-Some.ensures.spare in
    let room = inv.1 in
    let room' = inv.2 in (
      scatters_at _ _ _ c.in-Some.work _ _ _ _ inv.0 w.0 c.if-work.false c.push.ensures.items c.push-in-Some.ensures.items,
      omega (arith, n, s, room),
      omega (arith, n, s', room'),
    )

pub returns : goal.returns
returns g c = scattered _ _ _ _ c.loop-work.invariant.0 c.in_default.ensures.0
