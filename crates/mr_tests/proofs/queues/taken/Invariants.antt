use Rattle.mr_queues.specs.Queues.{IsAnyOf}
use Rattle.mr_tests.proofs.queues.taken.Given as goal

abbrev pub invariant-loop : goal.invariant-loop
invariant-loop l = IsAnyOf l.queues l.pass
