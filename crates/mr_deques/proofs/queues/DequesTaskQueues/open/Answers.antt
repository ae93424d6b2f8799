use Rattle.std.proofs.Common.{sym, ◌∙◌, subst, arith, List, length}
use Rattle.mr_base.specs.Tasks.{AreAll, AreUnused}
use Rattle.mr_deques.specs.declared.passes.DequePass.{DequePass}
use Rattle.mr_deques.specs.Passes.{IsPassOf, given_to, has_ended, number_of}
use Rattle.mr_deques.proofs.Passing.{refilled_is}
use Rattle.mr_deques.proofs.Shares.{is_pass, is_unused}
use Rattle.mr_deques.proofs.queues.DequesTaskQueues.open.Goals as goal

pub returns-clause-passes : goal.returns-clause-passes
returns-clause-passes c =
    let k = c.in_ok-share_all.ensures in
    let f = c.in_ok-deques.ensures.1 in
    let e = refilled_is c.in_ok-deques.passes.items c.share_all.new.all (k.length_is ∙ sym f.length_is) in
    subst (λ (l : List DequePass). AreAll (length c.in_ok-deques.deques.ranges) (IsPassOf c.in_ok-deques.deques) number_of l) (sym e)
    (k.length_is, λ i u lt. is_pass c.in_ok-deques.deques c.share_all.new.all k i u lt)

pub returns-clause-unused : goal.returns-clause-unused
returns-clause-unused c =
    let k = c.in_ok-share_all.ensures in
    let f = c.in_ok-deques.ensures.1 in
    let e = refilled_is c.in_ok-deques.passes.items c.share_all.new.all (k.length_is ∙ sym f.length_is) in
    subst (λ (l : List DequePass). AreUnused given_to has_ended l) (sym e)
    (λ i u lt. is_unused c.in_ok-deques.deques c.share_all.new.all k i u (let n = k.length_is in omega (arith, lt, n)))
