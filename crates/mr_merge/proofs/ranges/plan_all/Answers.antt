use Rattle.std.proofs.Common.{◌∙◌, sym, subst}
use Rattle.std.specs.Prelude.{IfOk}
use Rattle.mr_merge.specs.Lists.{lent, lists_of}
use Rattle.mr_merge.specs.Plans.{IsPlan}
use Rattle.mr_merge.specs.Rising.{rank}
use Rattle.mr_merge.proofs.Plans.{planned_by}
use Rattle.mr_merge.proofs.ranges.plan_all.Goals as goal

pub returns : goal.returns
returns g c =
    let lists = lists_of c.args.lists.now in
    subst (IsPlan (rank g.K.Ord.cmp) lists) (sym c.in_ok-plan.ensures)
    (planned_by (rank g.K.Ord.cmp) lists c.in_ok-ranges.ranges.items c.in_ok-plans.plans.items c.in_ok-plans-2.plans.items
    (sym c.in_ok-plans.plans.ok.0 ∙ c.in_ok-plans.ensures.len ∙ c.in_ok-ranges.ranges.ok.0)
    c.in_ok-plans-2.ensures c.in_ok-ranges.ensures.cut
    (λ i r s h e f.
    let given = (c.in_ok-plans.ensures.each i s h).1 in
    subst (λ q. IfOk s (λ p. IsPlan (rank g.K.Ord.cmp) (lent q.items) p.items)) (sym (e ∙ given.job_is r))
    (subst (λ t. IfOk t (λ p. IsPlan (rank g.K.Ord.cmp) (lent given.job.items) p.items)) (sym f) given.call.met)))
