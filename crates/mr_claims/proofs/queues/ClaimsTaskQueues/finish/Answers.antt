use Rattle.std.proofs.Common.{rules, ℕ, List, length, subst}
use Rattle.mr_base.specs.Tasks.{total_of}
use Rattle.mr_claims.specs.Lawful.{IsLawful}
use Rattle.mr_claims.proofs.Gathering.{begins_at, goes_on_at, next_of, ends_at}
use Rattle.mr_claims.proofs.queues.ClaimsTaskQueues.finish.Goals as goal

pub loop-next-init : goal.loop-next-init
loop-next-init c =
    begins_at c.args.self c.args.passes.items c.pop.new.self.items c.in-Some.first c.in-Some.ensures.0 c.requires.all c.requires.ended

pub join-requires-clause-other : goal.join-requires-clause-other
join-requires-clause-other c =
    let p = next_of c.args.self c.loop-next.seat c.loop-next.passes.items c.pop-in-loop-next.new.self.items c.args.passes.items
    c.in-Some-pop.next c.loop-next.invariant c.in-Some-pop.ensures.0 in
    (p.table, p.free)

pub loop-next-preserved : goal.loop-next-preserved
loop-next-preserved c =
    goes_on_at c.args.self c.loop-next.seat c.join.new.seat c.loop-next.passes.items c.pop-in-loop-next.new.self.items c.args.passes.items
    c.in-Some-pop.next c.loop-next.invariant c.in-Some-pop.ensures.0
    c.join.ensures.same.0 c.join.ensures.same.1 c.join.ensures.both

pub returns : goal.returns
returns c =
    let last = c.close_with.ensures.values.2 in
    ends_at c.args.self c.loop-next.seat c.loop-next.passes.items c.args.passes.items c.loop-next.invariant c.in_default-pop.ensures.0
    last.0.words last.0.views
    (subst (λ (r : List (ℕ × ℕ)). IsLawful (total_of r) (length r) last.0.words last.0.views) c.args.self.about last.1.0) last.1.1
