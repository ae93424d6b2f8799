use Rattle.std.proofs.Common.{inl, arith}
use Rattle.mr_deques.proofs.Steps.{takes_ok, few_never}
use Rattle.mr_deques.proofs.deque.steal.Goals as goal

pub steal_as-requires-clause-takes : goal.steal_as-requires-clause-takes
steal_as-requires-clause-takes c = takes_ok _ _ c.requires.may.0 (inl (c.requires.may.1, c.requires.may.2))

pub steal_as-requires-clause-empty : goal.steal_as-requires-clause-empty
steal_as-requires-clause-empty c =
    few_never _ _ c.requires.may.0 (c.requires.may.1, c.requires.may.2) _ (let f = c.requires.deque.1 in grind (arith, f))
