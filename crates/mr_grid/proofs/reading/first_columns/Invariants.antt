use Rattle.std.proofs.Common.{◌≤◌, ◌-◌, length}
use Rattle.mr_grid.specs.Reading.{IsRead}
use Rattle.mr_grid.proofs.reading.first_columns.Given as goal

abbrev pub invariant-loop-at : goal.invariant-loop-at
invariant-loop-at l =
    record { inside : l.at ≤ length l.bytes; read : IsRead l.bytes 0 l.at l.draft.numbers.items l.draft.rows l.draft.columns }

abbrev pub decreases-loop-at : goal.decreases-loop-at
decreases-loop-at l = length l.bytes - l.at
