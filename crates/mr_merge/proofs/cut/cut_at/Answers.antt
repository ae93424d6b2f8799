use Rattle.std.proofs.Common.{sym, subst, arith}
use Rattle.std.specs.Ordering.{is_lt}
use Rattle.std.proofs.lemmas.List.{length-map, take_all}
use Rattle.std.proofs.lemmas.List.Sorted.{ranks_by}
use Rattle.mr_merge.specs.Lists.{lent}
use Rattle.mr_merge.specs.Rising.{Rises, rank}
use Rattle.mr_merge.proofs.Cuts.{cutting_more, cut_off, told_apart}
use Rattle.mr_merge.proofs.Order.{rise_at, seen_at}
use Rattle.mr_merge.proofs.cut.cut_at.Goals as goal

pub loop-list-preserved : goal.loop-list-preserved
loop-list-preserved g c =
    let lists = c.args.lists.now in
    let i = c.loop-list.list-index in
    let list = c.list-item.result in
    let n = length-map lists (λ l. l.now) in
    let at = seen_at (λ l. l.now) lists i list c.loop-list-test.true c.list-item.is in
    cutting_more (rank g.K.Ord.cmp) (λ x. is_lt (g.K.Ord.cmp x.0 c.args.key.now))
    (lent lists) i c.loop-list.fronts.items c.loop-list.backs.items c.push.new.self.items c.push-in-loop-list.new.self.items
    c.cut_list.result.0 c.cut_list.result.1 list.now
    (omega (arith, c.loop-list-test.true, n)) at (subst (Rises (rank g.K.Ord.cmp)) (sym at)
    (rise_at (rank g.K.Ord.cmp) lists i c.requires))
    c.cut_list.ensures.all c.cut_list.ensures.lesser c.cut_list.ensures.others c.in_ok-push.ensures.items c.in_ok-push-2.ensures.items
    c.loop-list.invariant

pub returns-clause-cut : goal.returns-clause-cut
returns-clause-cut g c =
    let lists = c.args.lists.now in
    let n = length-map lists (λ l. l.now) in
    cut_off (rank g.K.Ord.cmp) (λ x. is_lt (g.K.Ord.cmp x.0 c.args.key.now))
    (lent lists) c.loop-list.list-index c.loop-list.fronts.items c.loop-list.backs.items
    (λ x y h k. told_apart (ranks_by g.met.K.Ord.total (λ k. k)) c.args.key.now x.0 y.0 h k)
    (take_all c.loop-list.list-index (lent lists) (omega (arith, c.loop-list-test.false, n))) c.loop-list.invariant
