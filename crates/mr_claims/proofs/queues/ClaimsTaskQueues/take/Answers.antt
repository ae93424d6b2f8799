use Rattle.std.proofs.Common.{rules, ◌<◌, ◌≡◌, ℕ, true, false, length, slice_index_or, arith, subst, sym}
use Rattle.mr_claims.specs.Passes.{queue_after}
use Rattle.mr_claims.proofs.Passing.{every_end, ends}
use Rattle.mr_claims.proofs.queues.ClaimsTaskQueues.take.Goals as goal

all_looked : (c : goal.After-pass-1) → (k : ℕ) → k < length c.args.self.now.ranges
    → slice_index_or c.loop-step.pass.seen (queue_after (length c.args.self.now.ranges) c.loop-step.pass.number k) false ≡ true
all_looked c k lt =
    let i = c.loop-step.invariant in
    let no = c.loop-step-test.false in
    let count = i.4 in
    let seen = c.loop-step.pass.seen in
    subst (λ w. slice_index_or seen (queue_after (length c.args.self.now.ranges) w k) false ≡ true) (sym i.1)
    (subst (λ n. slice_index_or seen (queue_after n c.args.pass.now.number k) false ≡ true) count (i.6 k (omega (arith, lt, no, count))))

pub returns-clause-same : goal.returns-clause-same
returns-clause-same c = let i = c.loop-step.invariant in (ends c.args.self.now c.loop-step.pass i.0 (all_looked c), i.1)

pub returns-clause-every_end : goal.returns-clause-every_end
returns-clause-every_end c = every_end c.args.self.now c.loop-step.pass c.loop-step.invariant.0 (all_looked c)
