use Rattle.std.proofs.Common.{arith}
use Rattle.mr_deques.proofs.Shares.{next_sharing}
use Rattle.mr_deques.proofs.share.share_all.Goals as goal

pub loop-q-preserved : goal.loop-q-preserved
loop-q-preserved c =
    let count = c.queues-count.ensures.count in
    let no = c.loop-w-test.false in
    let end = c.loop-w.auto.w-end in
    let lt = c.loop-q-test.true in
    next_sharing c.args.deques.now c.loop-q.q c.loop-w.w c.loop-w.all c.loop-w.invariant (omega (arith, no, end, count))
    (omega (arith, lt, count))
