use Rattle.mr_report.specs.Shown.{workers_of}
use Rattle.mr_items.specs.Report.{worker_lines}
use Rattle.mr_report.proofs.Printed.{round_step}
use Rattle.std.proofs.Common.{◌∙◌, ap, ◌+◌, ◌++◌}
use Rattle.mr_report.proofs.printing.report.Goals as goal

pub loop-round-preserved : goal.loop-round-preserved
loop-round-preserved c = record {
  count = ap (λ n. n + 1) c.loop-round.invariant.count;
  text = round_step (λ r. workers_of r.items) c.loop-round.number c.args.rounds.now c.loop-round.round-index c.round-item.result
      c.loop-round.text c.push_round.new.text
      c.loop-round-test.true c.round-item.is c.loop-round.invariant.count c.loop-round.invariant.text
      (c.in_ok-push_round.ensures ∙ ap (λ hs. c.loop-round.text ++ worker_lines c.loop-round.number 0 (workers_of hs)) c.as_slice.ensures);
}
