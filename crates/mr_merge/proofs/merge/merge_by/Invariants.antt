use Rattle.std.proofs.Common.{drop, map}
use Rattle.mr_merge.specs.Lists.{rows_of}
use Rattle.mr_merge.specs.Plans.{IsPlan}
use Rattle.mr_merge.specs.Rising.{rank}
use Rattle.mr_merge.proofs.Taking.{Moving}
use Rattle.mr_merge.proofs.merge.merge_by.Given as goal

abbrev pub invariant-loop-number : goal.invariant-loop-number
invariant-loop-number g l = record {
  moving : Moving (rank g.K.Ord.cmp) (rows_of l.fn.lists.items) l.rows.items (map (λ q. q.items) l.queues.items);
  plan : IsPlan (rank g.K.Ord.cmp) (map (λ q. q.items) l.queues.items) (drop l.number-index l.plan);
}
