use Rattle.std.proofs.Common.{◌≡◌, true, false, rules}
use Rattle.std.specs.Ordering.{is_lt}
use Rattle.std.proofs.lemmas.List.Sorted.{ranks_by, IsPartitionPoint-from_clause}
use Rattle.mr_merge.specs.Rising.{rank}
use Rattle.mr_merge.proofs.Cuts.{of_front, of_back, parted}
use Rattle.mr_merge.proofs.cut.cut_list.Goals as goal

pub returns-clause-lesser : goal.returns-clause-lesser
returns-clause-lesser g c =
    let point = IsPartitionPoint-from_clause
    (λ x. is_lt (g.K.Ord.cmp x.0 c.args.key.now)) c.args.list.now c.partition_point-at.result c.partition_point-at.ensures.partitioned
    (parted (rank g.K.Ord.cmp) (ranks_by g.met.K.Ord.total (λ e. e.0)) (λ x. is_lt (g.K.Ord.cmp x.0 c.args.key.now))
    (λ x y. (ranks_by g.met.K.Ord.total (λ k. k)).chain x.0 y.0 c.args.key.now) c.args.list.now c.requires)
    (λ a r q k. search rules) in
    of_front (λ x. is_lt
    (g.K.Ord.cmp x.0 c.args.key.now)
    ≡ true) c.args.list.now c.split_at.result.0.now c.partition_point-at.result c.split_at.ensures.front c.split_at.ensures.front_len
    point.0

pub returns-clause-others : goal.returns-clause-others
returns-clause-others g c =
    let point = IsPartitionPoint-from_clause
    (λ x. is_lt (g.K.Ord.cmp x.0 c.args.key.now)) c.args.list.now c.partition_point-at.result c.partition_point-at.ensures.partitioned
    (parted (rank g.K.Ord.cmp) (ranks_by g.met.K.Ord.total (λ e. e.0)) (λ x. is_lt (g.K.Ord.cmp x.0 c.args.key.now))
    (λ x y. (ranks_by g.met.K.Ord.total (λ k. k)).chain x.0 y.0 c.args.key.now) c.args.list.now c.requires)
    (λ a r q k. search rules) in
    of_back (λ x. is_lt
    (g.K.Ord.cmp x.0 c.args.key.now)
    ≡ false) c.args.list.now c.split_at.result.1.now c.partition_point-at.result c.split_at.ensures.back c.split_at.ensures.back_len point.1
