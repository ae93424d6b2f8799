use Rattle.std.proofs.Common.{◌+◌, [], length, map, drop, slice_index_or, sym, ap, subst, arith}
use Rattle.std.proofs.lemmas.List.{drop_more, with_items_is}
use Rattle.mr_merge.specs.Lists.{rows_of}
use Rattle.mr_merge.specs.Plans.{IsPlan}
use Rattle.mr_merge.specs.Rising.{rank}
use Rattle.mr_merge.proofs.Taking.{Moving, moving_all, moving_more, kept_count}
use Rattle.mr_merge.proofs.merge.merge_by.Goals as goal

pub loop-number-init : goal.loop-number-init
loop-number-init g c = record {
  moving = moving_all (rank g.K.Ord.cmp) c.args.lists.items (map
      (λ q. q.items) c.in_ok-queues.queues.items) c.in_ok-rows.rows.items c.in_ok-queues.ensures c.in_ok-rows.ensures.items;
  plan = subst (λ l. IsPlan (rank g.K.Ord.cmp) l c.args.plan.now) (sym c.in_ok-queues.ensures) c.requires;
}

pub loop-number-preserved : goal.loop-number-preserved
loop-number-preserved g c =
    let queues = c.loop-number.queues in
    let olds = c.deref_mut.result.now in
    let news = c.take_first-row.new.queues in
    let i = c.loop-number.number-index in
    let number = slice_index_or c.args.plan.now i 0 in
    let count = kept_count (λ q. q.items) olds news number (drop 1
    (slice_index_or (map (λ q. q.items) olds) number [])) c.take_first-row.ensures.rest in
    let same = ap length c.deref_mut.ensures.value in
    let put = sym (with_items_is queues news (omega (arith, count, same, queues.ok.0))) in
    let planned = subst (λ l. IsPlan (rank g.K.Ord.cmp) (map (λ q. q.items) l) (drop i c.args.plan.now))
    (sym c.deref_mut.ensures.value) c.loop-number.invariant.plan in
    let next = subst (IsPlan (rank g.K.Ord.cmp) (map (λ q. q.items) olds))
    (drop_more c.args.plan.now i 0 c.loop-number-test.true) planned in
    let moving = subst (λ l. Moving (rank g.K.Ord.cmp) (rows_of c.args.lists.items) c.loop-number.rows.items (map (λ q. q.items) l))
    (sym c.deref_mut.ensures.value) c.loop-number.invariant.moving in
    record {
      moving = subst (λ l. Moving (rank g.K.Ord.cmp) (rows_of c.args.lists.items) c.push.new.self.items (map (λ q. q.items) l)) put
          (moving_more (rank g.K.Ord.cmp) (rows_of c.args.lists.items) c.loop-number.rows.items c.push.new.self.items
          (map (λ q. q.items) olds) (map (λ q. q.items) news) number c.take_first-row.result
          next.0 c.take_first-row.ensures.first c.take_first-row.ensures.rest c.in_ok-push.ensures.items moving);
      plan = subst (λ l. IsPlan (rank g.K.Ord.cmp) (map (λ q. q.items) l) (drop (i + 1) c.args.plan.now)) put
          (subst (λ l. IsPlan (rank g.K.Ord.cmp) l (drop (i + 1) c.args.plan.now)) (sym c.take_first-row.ensures.rest) next.1);
    }
