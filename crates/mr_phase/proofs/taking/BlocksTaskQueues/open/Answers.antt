use Rattle.std.proofs.Common.{sym, subst, arith, length, ◌≡◌, ℕ}
use Rattle.mr_base.specs.Tasks.{total_of}
use Rattle.mr_phase.proofs.Blocking.{Opening, opened}
use Rattle.mr_phase.proofs.taking.BlocksTaskQueues.open.Goals as goal

pub returns-clause-passes : goal.returns-clause-passes
returns-clause-passes c =
    let end : c.loop-number.number ≡ c.queues-queues.result = omega (arith, c.loop-number-test.false, c.loop-number.auto.number-end) in
    let F : ℕ → ℕ → ℕ → Type 0 = λ t n k. Opening t n k c.loop-number.passes.items in
    let so : F c.total.result c.queues-queues.result c.queues-queues.result =
    subst (λ t. F t c.queues-queues.result c.queues-queues.result) (sym c.total.ensures.total)
    (subst (λ n. F (total_of c.args.ranges.now) n c.queues-queues.result) (sym c.queues-queues.ensures.count)
    (subst (F (total_of c.args.ranges.now) (length c.args.ranges.now)) end c.loop-number.invariant.0)) in
    opened (record { tasks = c.total.result; queues = c.queues-queues.result; some = c.queues-queues.ensures.few.0 })
    c.loop-number.passes.items so
