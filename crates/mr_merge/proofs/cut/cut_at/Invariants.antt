use Rattle.std.specs.Ordering.{is_lt}
use Rattle.mr_merge.specs.Lists.{lent}
use Rattle.mr_merge.specs.Rising.{rank}
use Rattle.mr_merge.proofs.Cuts.{Cutting}
use Rattle.mr_merge.proofs.cut.cut_at.Given as goal

abbrev pub invariant-loop-list : goal.invariant-loop-list
invariant-loop-list g l = Cutting (rank g.K.Ord.cmp) (λ x. is_lt (g.K.Ord.cmp x.0 l.key))
    (lent l.lists) l.list-index l.fronts.items l.backs.items
