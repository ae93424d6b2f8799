use Rattle.std.proofs.Common.{◌≡◌, [], rules, arith}
use Rattle.std.proofs.lemmas.List.{drop_all}
use Rattle.std.proofs.lemmas.List.Sorted.{ranks_by}
use Rattle.mr_merge.specs.Lists.{lent}
use Rattle.mr_merge.proofs.Runs.{planning_more, planning_less, planning_end, lighter_more}
use Rattle.mr_merge.proofs.plan.plan_of.Goals as goal

pub loop-number-smaller-in-Continue-branch-4 : goal.loop-number-smaller-in-Continue-branch-4
loop-number-smaller-in-Continue-branch-4 g c =
    lighter_more c.loop-number.runs.items c.pop_front.new.self.items c.insert.new.self.items
    (c.in-Some.number, c.in-Some.rows) c.in-Some-split_first.field-0-0.now c.in-Some-split_first.rest c.place_of-place.result
    c.in-Some.ensures.items c.in-Some-split_first.ensures.cases.0 c.in_ok-insert.ensures.items c.place_of-place.ensures.inside

pub loop-number-preserved-in-Continue-branch-4 : goal.loop-number-preserved-in-Continue-branch-4
loop-number-preserved-in-Continue-branch-4 g c =
    planning_more (ranks_by g.met.K.Ord.total (λ row. row.0))
    (lent c.args.lists.now) c.loop-number.plan.items c.push.new.self.items c.loop-number.runs.items c.pop_front.new.self.items
    c.insert.new.self.items (c.in-Some.number, c.in-Some.rows)
    c.in-Some-split_first.field-0-0.now c.in-Some-split_first.rest c.place_of-place.result c.in-Some.ensures.items
    c.in-Some-split_first.ensures.cases.0 c.in_ok-push.ensures.items c.in_ok-insert.ensures.items
    c.place_of-place.ensures.inside c.place_of-place.ensures.behind c.place_of-place.ensures.before c.loop-number.invariant

pub loop-number-preserved : goal.loop-number-preserved
loop-number-preserved g c =
    let none : c.in-Some.rows.now ≡ [] = drop_all 0 c.in-Some.rows.now (omega (arith, c.in_default-split_first.ensures.cases)) in
    planning_less (ranks_by g.met.K.Ord.total (λ row. row.0))
    (lent c.args.lists.now) c.loop-number.plan.items c.loop-number.runs.items c.pop_front.new.self.items
    (c.in-Some.number, c.in-Some.rows) c.in-Some.ensures.items none c.loop-number.invariant

pub returns : goal.returns
returns g c =
    let none : c.loop-number.runs.items ≡ [] = search rules in
    planning_end (ranks_by g.met.K.Ord.total (λ row. row.0))
    (lent c.args.lists.now) c.loop-number.plan.items c.loop-number.runs.items none c.loop-number.invariant
