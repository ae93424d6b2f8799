use Rattle.std.proofs.Common.{inl, arith}
use Rattle.mr_deques.proofs.Steps.{takes_ok, never_empty}
use Rattle.mr_deques.proofs.deque.pop.Goals as goal

pub pop_as-requires-clause-fifo : goal.pop_as-requires-clause-fifo
pop_as-requires-clause-fifo c flavor = takes_ok _ _ c.requires.may.0 (inl (c.requires.may.1, c.requires.may.2))

pub pop_as-requires-clause-lifo : goal.pop_as-requires-clause-lifo
pop_as-requires-clause-lifo c flavor = absurd (let f = c.requires.flavor in omega (arith, f, flavor))

pub pop_as-requires-clause-empty : goal.pop_as-requires-clause-empty
pop_as-requires-clause-empty c = never_empty _ _ c.requires.may.0 (c.requires.may.1, c.requires.may.2)
