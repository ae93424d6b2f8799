use Rattle.std.proofs.Common.{sym, subst, arith}
use Rattle.std.proofs.lemmas.List.{length-map, take_all}
use Rattle.std.proofs.lemmas.List.Sorted.{ranks_by}
use Rattle.mr_merge.specs.Lists.{lent}
use Rattle.mr_merge.specs.Rising.{Rises, rank}
use Rattle.mr_merge.specs.Runs.{AreRuns}
use Rattle.mr_merge.proofs.Order.{lent_at, rise_at}
use Rattle.mr_merge.proofs.Runs.{numbered_none, numbered_more}
use Rattle.mr_merge.proofs.plan.runs_of.Goals as goal

pub loop-number-init : goal.loop-number-init
loop-number-init g c = numbered_none (ranks_by g.met.K.Ord.total (λ e. e.0))
    (lent c.args.lists.now) c.in_ok-runs.runs.items c.in_ok-runs.ensures.items

pub place_of-place-requires : goal.place_of-place-requires
place_of-place-requires g c = c.loop-number.invariant.are.order

pub loop-number-preserved : goal.loop-number-preserved
loop-number-preserved g c =
    let lists = c.args.lists.now in
    let list = c.index-lists-number.result in
    let n = length-map lists (λ l. l.now) in
    let at = lent_at lists c.loop-number.number list c.loop-number-test.true c.index-lists-number.is in
    numbered_more (ranks_by g.met.K.Ord.total (λ e. e.0))
    (lent lists) c.loop-number.number c.loop-number.runs.items c.insert.new.self.items list c.place_of-place.result
    (omega (arith, c.loop-number-test.true, n)) at
    (subst (Rises (rank g.K.Ord.cmp)) (sym at) (rise_at (rank g.K.Ord.cmp) lists c.loop-number.number c.requires))
    c.in_ok-insert.ensures.items c.place_of-place.ensures.inside c.place_of-place.ensures.behind c.place_of-place.ensures.before
    c.loop-number.invariant

pub returns : goal.returns
returns g c =
    let lists = c.args.lists.now in
    let n = length-map lists (λ l. l.now) in
    subst (λ l. AreRuns (rank g.K.Ord.cmp) l c.loop-number.runs.items)
    (take_all c.loop-number.number (lent lists) (omega (arith, c.loop-number-test.false, n))) c.loop-number.invariant.are
