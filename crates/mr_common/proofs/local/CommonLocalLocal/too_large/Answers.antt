use Rattle.std.proofs.Common.{◌<◌, ◌≤◌, nat_lt, subst}
use Rattle.std.specs.Cmp.{nat_cmp_total}
use Rattle.std.specs.FinMap.{nat_cmp-IsAntisymmetric}
use Rattle.mr_common.proofs.Emitting.{after_too_large, after_too_large_outside, below, not_below}
use Rattle.mr_common.proofs.local.CommonLocalLocal.too_large.Goals as goal

pub returns-then-key-self-clause-stands : goal.returns-then-key-self-clause-stands
returns-then-key-self-clause-stands c es was = rw c.keep_lesser.ensures
    (after_too_large nat_cmp_total nat_cmp-IsAntisymmetric (λ k. nat_lt k c.args.self.now.array.now.size) _ _ _ _ es was c.args.key
    (below c.args.self.now.array.now.size c.args.key (subst (λ k. k < c.args.self.now.array.now.size) c.key.view_is c.if-key-self.true)))

pub returns-else-key-self-clause-stands : goal.returns-else-key-self-clause-stands
returns-else-key-self-clause-stands c es was = rw c.keep_lesser-else-key-self.ensures
    (after_too_large_outside nat_cmp_total nat_cmp-IsAntisymmetric (λ k. nat_lt k c.args.self.now.array.now.size) _ _ _ _ es was c.args.key
    (not_below c.args.self.now.array.now.size c.args.key
    (subst (λ k. c.args.self.now.array.now.size ≤ k) c.key.view_is c.if-key-self.false)))
