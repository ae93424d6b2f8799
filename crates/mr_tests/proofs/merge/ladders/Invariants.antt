use Rattle.mr_tests.proofs.Rungs.{Ladders}
use Rattle.mr_tests.proofs.merge.ladders.Given as goal

abbrev pub invariant-loop-i : goal.invariant-loop-i
invariant-loop-i l = Ladders l.lists.items l.i
