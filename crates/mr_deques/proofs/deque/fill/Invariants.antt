use Rattle.mr_deques.specs.Lawful.{about}
use Rattle.mr_deques.proofs.deque.fill.Given as goal

abbrev pub ghosts-filled : goal.ghosts-filled
ghosts-filled a = record { about = about a.start a.end a.passes }
