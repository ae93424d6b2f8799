use Rattle.std.proofs.Common.{◌≤◌, ◌-◌}
use Rattle.mr_grid.specs.Reading.{IsRead}
use Rattle.mr_grid.proofs.reading.read_lines.Given as goal

abbrev pub invariant-loop-at : goal.invariant-loop-at
invariant-loop-at l = record {
  before : l.part.from ≤ l.at;
  inside : l.at ≤ l.part.to;
  read : IsRead l.bytes l.part.from l.at l.draft.numbers.items l.draft.rows l.draft.columns;
}

abbrev pub decreases-loop-at : goal.decreases-loop-at
decreases-loop-at l = l.part.to - l.at
