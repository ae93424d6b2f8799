use Rattle.std.proofs.Common.{◌≡◌, ◌++◌, take}
use Rattle.mr_items.specs.Report.{worker_lines}
use Rattle.mr_report.specs.Shown.{workers_of}
use Rattle.mr_report.proofs.printing.push_round.Given as goal

abbrev pub invariant-loop-share : goal.invariant-loop-share
invariant-loop-share l = record {
  count : l.worker ≡ l.share-index;
  text : l.text ≡ l.initial.text ++ worker_lines l.round 0 (workers_of (take l.share-index l.shares));
}
