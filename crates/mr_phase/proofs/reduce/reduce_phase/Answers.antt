use Rattle.std.proofs.Common.{subst, flat_map, ◌∙◌}
use Rattle.std.specs.List.{range_with_len}
use Rattle.std.specs.List.Sorted.{IsPermutation}
use Rattle.std.proofs.lemmas.List.Sorted.{IsPermutation-trans}
use Rattle.mr_defs.specs.Commutative.{joined_by}
use Rattle.mr_phase.specs.Partition.{HaveReduced, anywhere, itself}
use Rattle.mr_phase.proofs.Sorts.{ends}
use Rattle.mr_phase.proofs.Sharing.{fresh_works, all_reduced}
use Rattle.mr_phase.proofs.reduce.reduce_phase.Goals as goal

pub reduce_all-requires-clause-fresh : goal.reduce_all-requires-clause-fresh
reduce_all-requires-clause-fresh g c lifetimes lives =
    let q = g.Q.TaskQueues in
    fresh_works g.L.Key.Ord.cmp (λ k. joined_by g.L.Fold.Combiner.merged (λ h. g.L.Parted.cell h.local k) c.args.mapped.now)
    (g.L.Parted.part_of c.args.partitions) g.L.Fold.Combiner.over g.R.Reducer.answer
    (q.is_of c.args.queues) q.number q.given q.ended
    (q.count c.args.queues) c.args.passes.items c.in_ok-lists.lists.items c.in_ok-works.works.items c.requires.passes.0 c.requires.passes.1
    (c.in_ok-lists.ensures.0 ∙ c.len-2.ensures) c.in_ok-lists.ensures.1 c.in_ok-works.ensures.all

pub finish-requires-clause-all : goal.finish-requires-clause-all
finish-requires-clause-all g c =
    let q = g.Q.TaskQueues in
    (ends (q.is_of c.args.queues) q.number q.given q.ended anywhere
    (HaveReduced g.L.Key.Ord.cmp (λ k. joined_by g.L.Fold.Combiner.merged (λ h. g.L.Parted.cell h.local k) c.args.mapped.now)
    (g.L.Parted.part_of c.args.partitions) g.L.Fold.Combiner.over g.R.Reducer.answer) itself (q.count c.args.queues)
    c.args.passes.items c.in_ok-lists.lists.items c.in_ok-works.works.items c.reduce_all.new.works.items c.in_ok-passes.passes.items
    c.in_ok-passes.shares.items
    c.requires.passes.0 c.in_ok-works.ensures.all c.reduce_all.ensures.len c.reduce_all.ensures.done c.in_ok-passes.ensures
    (c.in_ok-lists.ensures.0 ∙ c.len-2.ensures)).closed.0

pub finish-requires-clause-ended : goal.finish-requires-clause-ended
finish-requires-clause-ended g c =
    let q = g.Q.TaskQueues in
    (ends (q.is_of c.args.queues) q.number q.given q.ended anywhere
    (HaveReduced g.L.Key.Ord.cmp (λ k. joined_by g.L.Fold.Combiner.merged (λ h. g.L.Parted.cell h.local k) c.args.mapped.now)
    (g.L.Parted.part_of c.args.partitions) g.L.Fold.Combiner.over g.R.Reducer.answer) itself (q.count c.args.queues)
    c.args.passes.items c.in_ok-lists.lists.items c.in_ok-works.works.items c.reduce_all.new.works.items c.in_ok-passes.passes.items
    c.in_ok-passes.shares.items
    c.requires.passes.0 c.in_ok-works.ensures.all c.reduce_all.ensures.len c.reduce_all.ensures.done c.in_ok-passes.ensures
    (c.in_ok-lists.ensures.0 ∙ c.len-2.ensures)).closed.1

pub together-requires-clause-count : goal.together-requires-clause-count
together-requires-clause-count g c =
    let q = g.Q.TaskQueues in
    (all_reduced g.L.Key.Ord.cmp (λ k. joined_by g.L.Fold.Combiner.merged (λ h. g.L.Parted.cell h.local k) c.args.mapped.now)
    (g.L.Parted.part_of c.args.partitions) g.L.Fold.Combiner.over g.R.Reducer.answer c.in_ok-passes.shares.items c.in_ok-all.all.items
    c.args.partitions
    (ends (q.is_of c.args.queues) q.number q.given q.ended anywhere
    (HaveReduced g.L.Key.Ord.cmp (λ k. joined_by g.L.Fold.Combiner.merged (λ h. g.L.Parted.cell h.local k) c.args.mapped.now)
    (g.L.Parted.part_of c.args.partitions) g.L.Fold.Combiner.over g.R.Reducer.answer) itself (q.count c.args.queues)
    c.args.passes.items c.in_ok-lists.lists.items c.in_ok-works.works.items c.reduce_all.new.works.items c.in_ok-passes.passes.items
    c.in_ok-passes.shares.items
    c.requires.passes.0 c.in_ok-works.ensures.all c.reduce_all.ensures.len c.reduce_all.ensures.done c.in_ok-passes.ensures
    (c.in_ok-lists.ensures.0 ∙ c.len-2.ensures)).stands_each
    (let hands = flat_map (λ h. h.tasks.items) c.in_ok-passes.shares.items in
    subst (λ n. IsPermutation (range_with_len 0 n) hands) c.requires.total
    (IsPermutation-trans _ _ _ c.finish.ensures
    (ends (q.is_of c.args.queues) q.number q.given q.ended anywhere
    (HaveReduced g.L.Key.Ord.cmp (λ k. joined_by g.L.Fold.Combiner.merged (λ h. g.L.Parted.cell h.local k) c.args.mapped.now)
    (g.L.Parted.part_of c.args.partitions) g.L.Fold.Combiner.over g.R.Reducer.answer) itself (q.count c.args.queues)
    c.args.passes.items c.in_ok-lists.lists.items c.in_ok-works.works.items c.reduce_all.new.works.items c.in_ok-passes.passes.items
    c.in_ok-passes.shares.items
    c.requires.passes.0 c.in_ok-works.ensures.all c.reduce_all.ensures.len c.reduce_all.ensures.done c.in_ok-passes.ensures
    (c.in_ok-lists.ensures.0 ∙ c.len-2.ensures)).tasks))
    c.in_ok-all.ensures.all c.in_ok-all.ensures.sorted).0

pub together-requires-clause-each : goal.together-requires-clause-each
together-requires-clause-each g c =
    let q = g.Q.TaskQueues in
    (all_reduced g.L.Key.Ord.cmp (λ k. joined_by g.L.Fold.Combiner.merged (λ h. g.L.Parted.cell h.local k) c.args.mapped.now)
    (g.L.Parted.part_of c.args.partitions) g.L.Fold.Combiner.over g.R.Reducer.answer c.in_ok-passes.shares.items c.in_ok-all.all.items
    c.args.partitions
    (ends (q.is_of c.args.queues) q.number q.given q.ended anywhere
    (HaveReduced g.L.Key.Ord.cmp (λ k. joined_by g.L.Fold.Combiner.merged (λ h. g.L.Parted.cell h.local k) c.args.mapped.now)
    (g.L.Parted.part_of c.args.partitions) g.L.Fold.Combiner.over g.R.Reducer.answer) itself (q.count c.args.queues)
    c.args.passes.items c.in_ok-lists.lists.items c.in_ok-works.works.items c.reduce_all.new.works.items c.in_ok-passes.passes.items
    c.in_ok-passes.shares.items
    c.requires.passes.0 c.in_ok-works.ensures.all c.reduce_all.ensures.len c.reduce_all.ensures.done c.in_ok-passes.ensures
    (c.in_ok-lists.ensures.0 ∙ c.len-2.ensures)).stands_each
    (let hands = flat_map (λ h. h.tasks.items) c.in_ok-passes.shares.items in
    subst (λ n. IsPermutation (range_with_len 0 n) hands) c.requires.total
    (IsPermutation-trans _ _ _ c.finish.ensures
    (ends (q.is_of c.args.queues) q.number q.given q.ended anywhere
    (HaveReduced g.L.Key.Ord.cmp (λ k. joined_by g.L.Fold.Combiner.merged (λ h. g.L.Parted.cell h.local k) c.args.mapped.now)
    (g.L.Parted.part_of c.args.partitions) g.L.Fold.Combiner.over g.R.Reducer.answer) itself (q.count c.args.queues)
    c.args.passes.items c.in_ok-lists.lists.items c.in_ok-works.works.items c.reduce_all.new.works.items c.in_ok-passes.passes.items
    c.in_ok-passes.shares.items
    c.requires.passes.0 c.in_ok-works.ensures.all c.reduce_all.ensures.len c.reduce_all.ensures.done c.in_ok-passes.ensures
    (c.in_ok-lists.ensures.0 ∙ c.len-2.ensures)).tasks))
    c.in_ok-all.ensures.all c.in_ok-all.ensures.sorted).1
