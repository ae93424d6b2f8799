use Rattle.std.proofs.Common.{◌∙◌, subst, sym, refl}
use Rattle.mr_phase.specs.Blocks as block
use Rattle.mr_queues.specs.declared.any.AnyPass.TheVariants as pass
use Rattle.mr_queues.specs.declared.any.AnyQueues.TheVariants as kept
use Rattle.mr_queues.specs.Passes.{ended, given, number}
use Rattle.mr_queues.specs.Queues.{IsAnyOf}
use Rattle.mr_queues.specs.Rooms.{AreRoomed}
use Rattle.mr_queues.proofs.Rooming.{are_any, are_unused}
use Rattle.mr_queues.proofs.queues.blocks.Goals as goal

pub returns-clause-passes : goal.returns-clause-passes
returns-clause-passes c =
    let q = c.in_ok-queues.queues in
    let ps = c.in_ok-queues.passes.items in
    let all = c.in_ok-passes.passes.items in
    are_any (λ r. pass.Blocks r.0 r.1) q.queues (λ p. p.number) number (λ r. refl) (block.IsBlockOf q) (IsAnyOf (kept.Blocks q))
    (λ r is room. (is, room)) ps all
    (subst (λ n. AreRoomed (λ r. pass.Blocks r.0 r.1) n ps all)
    (c.queues.ensures.count ∙ sym c.in_ok-queues.ensures.counts.1) c.in_ok-passes.ensures) c.in_ok-queues.ensures.passes

pub returns-clause-unused : goal.returns-clause-unused
returns-clause-unused c =
    are_unused (λ r. pass.Blocks r.0 r.1) c.queues.result block.given_of given (λ r. refl) (λ p. p.ended) ended
    (λ r. refl) c.in_ok-queues.passes.items c.in_ok-passes.passes.items c.in_ok-passes.ensures c.in_ok-queues.ensures.unused
