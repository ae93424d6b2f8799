use Rattle.std.proofs.Common.{◌∙◌, arith}
use Rattle.mr_base.proofs.Passes.{of_two}
use Rattle.mr_queues.specs.Queues.{IsAnyOf}
use Rattle.mr_tests.proofs.queues.taken_by_two.Goals as goal

pub join-one-requires-after_bounds : goal.join-one-requires-after_bounds
join-one-requires-after_bounds g c κs within =
    let all = c.in_ok-queues.ensures.passes in
    let count = c.in_ok-queues.ensures.counts.1 ∙ c.in_ok-ranges.ensures.counts.1 in
    of_two (λ i. IsAnyOf c.in_ok-queues.queues) c.in_ok-queues.passes.items c.pop.new.self.items c.pop-2.new.self.items c.in-Some-pop.first
    c.in-Some.second (all.0 ∙ count)
    (λ i d lt. (all.1 i d (omega (arith, lt, count))).0) c.in-Some.ensures.0 c.in-Some-pop.ensures.0
