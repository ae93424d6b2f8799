use Rattle.mr_report.specs.Shown.{work_of}
use Rattle.mr_report.proofs.Printed.{worker_step}
use Rattle.std.proofs.Common.{ap, ◌+◌}
use Rattle.mr_report.proofs.printing.push_round.Goals as goal

pub loop-share-preserved : goal.loop-share-preserved
loop-share-preserved c = record {
  count = ap (λ n. n + 1) c.loop-share.invariant.count;
  text = worker_step work_of c.args.round c.loop-share.worker c.args.shares.now c.loop-share.share-index c.share-item.result
      c.args.text.now c.loop-share.text c.push_worker.new.text
      c.loop-share-test.true c.share-item.is c.loop-share.invariant.count c.loop-share.invariant.text c.in_ok-push_worker.ensures;
}
