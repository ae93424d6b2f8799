use Rattle.std.proofs.Common.{rules}
use Rattle.std.specs.Cmp.{nat_cmp_total}
use Rattle.std.proofs.lemmas.List.Sorted.{ranks_by, answers_always}
use Rattle.mr_phase.proofs.Sharing.{poured_in, poured_all}
use Rattle.mr_phase.proofs.reduce.in_order.Goals as goal

pub loop-share-preserved : goal.loop-share-preserved
loop-share-preserved g c = poured_in
    (λ h. h.local.items) _ c.loop-share.all.items c.pour.new.all.items c.loop-share.shares.items c.pop.new.self.items c.in-Some.share
    c.in-Some.ensures.0 c.in_ok-pour.ensures c.loop-share.invariant

pub returns-clause-all : goal.returns-clause-all
returns-clause-all g c = poured_all
    (λ h. h.local.items) _ c.loop-share.all.items c.sort_by.new.self.items c.loop-share.shares.items c.in_default.ensures.0
    c.in_ok-sort_by.ensures.permutation c.loop-share.invariant

pub returns-clause-sorted : goal.returns-clause-sorted
returns-clause-sorted g c =
    c.in_ok-sort_by.ensures.sorted _ (ranks_by nat_cmp_total (λ p. p.part)) (answers_always _ _ _ (λ f a r f' k. search rules))
