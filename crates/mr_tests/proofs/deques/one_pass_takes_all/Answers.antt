use Rattle.std.proofs.Common.{rules, ◌∙◌, arith}
use Rattle.mr_base.proofs.Passes.{of_two}
use Rattle.mr_deques.specs.Passes.{IsPassOf}
use Rattle.mr_tests.proofs.deques.one_pass_takes_all.Goals as goal

pub take-requires : goal.take-requires
take-requires g c =
    let all = c.in_ok-deques.ensures.passes in
    let count = c.in_ok-deques.ensures.counts.1 ∙ c.in_ok-ranges.ensures.counts.1 in
    (of_two (λ i. IsPassOf c.in_ok-deques.deques) c.in_ok-deques.passes.items c.pop.new.self.items c.pop-2.new.self.items
    c.in-Some-pop.first c.in-Some.second (all.0 ∙ count)
    (λ i d lt. (all.1 i d (omega (arith, lt, count))).0) c.in-Some.ensures.0 c.in-Some-pop.ensures.0).0

pub take-requires-5 : goal.take-requires-5
take-requires-5 g c =
    let all = c.in_ok-deques.ensures.passes in
    let count = c.in_ok-deques.ensures.counts.1 ∙ c.in_ok-ranges.ensures.counts.1 in
    (of_two (λ i. IsPassOf c.in_ok-deques.deques) c.in_ok-deques.passes.items c.pop.new.self.items c.pop-2.new.self.items
    c.in-Some-pop.first c.in-Some.second (all.0 ∙ count)
    (λ i d lt. (all.1 i d (omega (arith, lt, count))).0) c.in-Some.ensures.0 c.in-Some-pop.ensures.0).1
