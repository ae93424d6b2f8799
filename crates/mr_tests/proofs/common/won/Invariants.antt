use Rattle.mr_common.specs.Passes.{IsPassOf}
use Rattle.mr_tests.proofs.common.won.Given as goal

abbrev pub invariant-loop-key : goal.invariant-loop-key
invariant-loop-key l = IsPassOf l.array.table.shared.table_id l.array.size l.pass
