use Rattle.std.proofs.Common.{◌≡◌, true, false, rules}
use Rattle.std.specs.Cmp.{IsStrictWeakOrder}
use Rattle.std.specs.List.Sorted.{IsPartitionPoint}
use Rattle.std.proofs.lemmas.List.Sorted.{IsPartitionPoint-from_clause, ranks_by}
use Rattle.mr_merge.specs.Rising.{rank, begins_lower}
use Rattle.mr_merge.proofs.Cuts.{parted}
use Rattle.mr_merge.proofs.Order.{begins_order}
use Rattle.mr_merge.proofs.plan.place_of.Goals as goal

point : (g : _) (c : goal.After-partition_point g) → IsPartitionPoint
    (λ a. begins_lower (rank {A = g.row.A.Denot} g.K.Ord.cmp) a.1.now c.args.rows.now ≡ true)
    (λ a. begins_lower
    (rank {A = g.row.A.Denot} g.K.Ord.cmp) a.1.now c.args.rows.now ≡ false) c.args.runs.now.items c.partition_point.result
point g c =
    let o : IsStrictWeakOrder (begins_lower (rank {A = g.row.A.Denot} g.K.Ord.cmp)) = begins_order (λ a. a)
    (ranks_by g.met.K.Ord.total (λ row. row.0)) in
    IsPartitionPoint-from_clause (λ a. begins_lower (rank g.K.Ord.cmp) a.1.now c.args.rows.now) _ _ c.partition_point.ensures.partitioned
    (parted (λ a b. begins_lower (rank g.K.Ord.cmp) a.1.now b.1.now)
    (begins_order (λ a. a.1.now) (ranks_by g.met.K.Ord.total (λ row. row.0)))
    (λ a. begins_lower (rank g.K.Ord.cmp) a.1.now c.args.rows.now)
    (λ x y. o.chain x.1.now y.1.now c.args.rows.now) c.args.runs.now.items c.requires)
    (λ a r q k. search rules)

pub returns-clause-behind : goal.returns-clause-behind
returns-clause-behind g c = (point g c).0

pub returns-clause-before : goal.returns-clause-before
returns-clause-before g c = (point g c).1
