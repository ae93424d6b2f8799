use Rattle.mr_deques.proofs.Steps.{merges_ok}
use Rattle.mr_deques.proofs.deque.take_back.Goals as goal

pub absorb-requires-clause-rule : goal.absorb-requires-clause-rule
absorb-requires-clause-rule c = merges_ok _ _ _ _ c.requires.full.0 c.requires.full.2
