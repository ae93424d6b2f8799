use Rattle.std.proofs.Common.{◌≡◌, ◌==◌, drop}
use Rattle.std.specs.Prelude.{find}
use Rattle.mr_numeric.proofs.sums.answer_at.Given as goal

-- the row is among those that are left
abbrev pub invariant-loop-row : goal.invariant-loop-row
invariant-loop-row l = find (λ row. row.0 == l.key) (drop l.row-index l.rows) ≡ find (λ row. row.0 == l.key) l.rows
