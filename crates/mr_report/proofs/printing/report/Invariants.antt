use Rattle.std.proofs.Common.{◌≡◌, ◌+◌, take}
use Rattle.mr_items.specs.Report.{round_lines}
use Rattle.mr_report.specs.Shown.{rounds_seen}
use Rattle.mr_report.proofs.printing.report.Given as goal

abbrev pub invariant-loop-round : goal.invariant-loop-round
invariant-loop-round l = record {
  count : l.number ≡ l.round-index + 1;
  text : l.text ≡ round_lines 1 (rounds_seen (take l.round-index l.rounds));
}
