use Rattle.std.proofs.Common.{inr, arith, []}
use Rattle.mr_deques.proofs.Steps.{takes_last, all_ok}
use Rattle.mr_deques.proofs.deque.last.Goals as goal

pub pop_as-requires-clause-fifo : goal.pop_as-requires-clause-fifo
pop_as-requires-clause-fifo c flavor = takes_last _ _ c.requires.all.0 (inr c.requires.all.1)

pub pop_as-requires-clause-lifo : goal.pop_as-requires-clause-lifo
pop_as-requires-clause-lifo c flavor = absurd (let f = c.requires.flavor in omega (arith, f, flavor))

pub pop_as-requires-clause-empty : goal.pop_as-requires-clause-empty
pop_as-requires-clause-empty c views h at = all_ok _ _ [] views h at
