use Rattle.std.proofs.Common.{ap, ◌∙◌}
use Rattle.std.proofs.lemmas.List.{take_all}
use Rattle.mr_base.specs.Noting.{noted_of}
use Rattle.mr_phase.specs.Spread.{noted_all}
use Rattle.mr_phase.proofs.Everyone.{noted_more}
use Rattle.mr_phase.proofs.together.merge_faults.Goals as goal

pub loop-hand-preserved : goal.loop-hand-preserved
loop-hand-preserved g c =
    noted_more g.met.L.Key.Ord.total g.met.L.Key.Key.only_equal_tie
    (λ h. g.L.Local.noted h.local) c.as_slice-hand-items.result.now c.loop-hand.hand-index c.hand-item.result c.loop-hand-test.true
    c.hand-item.is
    (noted_of c.merge.new.self) (noted_of c.loop-hand.faults) (noted_of c.in_ok-more.more)
    c.merge.ensures.malformed c.merge.ensures.outside c.merge.ensures.twice c.merge.ensures.over
    c.loop-hand.invariant (ap noted_of c.in_ok-more.ensures ∙ c.faults.ensures)

pub returns : goal.returns
returns g c = c.loop-hand.invariant ∙ ap (noted_all g.L.Key.Ord.cmp (λ h. g.L.Local.noted h.local))
    (take_all c.loop-hand.hand-index c.as_slice-hand-items.result.now c.loop-hand-test.false ∙ c.as_slice-hand-items.ensures
    ∙ c.mapped.view_is)
