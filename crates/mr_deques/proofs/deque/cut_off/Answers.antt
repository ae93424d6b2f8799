use Rattle.mr_deques.proofs.Steps.{forks_ok}
use Rattle.mr_deques.proofs.deque.cut_off.Goals as goal

pub another-requires : goal.another-requires
another-requires c = forks_ok _ _ c.requires.0 c.requires.1 c.requires.2
