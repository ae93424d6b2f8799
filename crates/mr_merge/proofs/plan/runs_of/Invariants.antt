use Rattle.mr_merge.specs.Lists.{lent}
use Rattle.mr_merge.specs.Rising.{rank}
use Rattle.mr_merge.proofs.Runs.{Numbered}
use Rattle.mr_merge.proofs.plan.runs_of.Given as goal

abbrev pub invariant-loop-number : goal.invariant-loop-number
invariant-loop-number g l = Numbered (rank g.K.Ord.cmp) (lent l.lists) l.number l.runs.items
