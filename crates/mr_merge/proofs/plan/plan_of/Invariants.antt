use Rattle.mr_merge.specs.Lists.{lent}
use Rattle.mr_merge.specs.Rising.{rank}
use Rattle.mr_merge.proofs.Runs.{Planning, weight}
use Rattle.mr_merge.proofs.plan.plan_of.Given as goal

abbrev pub invariant-loop-number : goal.invariant-loop-number
invariant-loop-number g l = Planning (rank g.K.Ord.cmp) (lent l.lists) l.plan.items l.runs.items

abbrev pub decreases-loop-number : goal.decreases-loop-number
decreases-loop-number g l = weight l.runs.items
