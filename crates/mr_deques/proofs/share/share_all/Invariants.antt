use Rattle.mr_deques.specs.Phases.{Sharing}
use Rattle.mr_deques.proofs.share.share_all.Given as goal

abbrev pub invariant-loop-w : goal.invariant-loop-w
invariant-loop-w l = Sharing l.deques l.q l.w l.all

abbrev pub invariant-loop-q : goal.invariant-loop-q
invariant-loop-q l = Sharing l.deques l.q 0 l.all
