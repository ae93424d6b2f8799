use Rattle.std.proofs.Common.{subst, ap, ◌∙◌, flat_map}
use Rattle.mr_phase.specs.Works.{AreSameHands}
use Rattle.mr_phase.proofs.Kept.{tasks_kept}
use Rattle.mr_phase.proofs.mapped.Mapped.arrange.Goals as goal

pub returns-clause-tasks : goal.returns-clause-tasks
returns-clause-tasks g c = tasks_kept g.L.Local.same _ _ (c.arrange_hands.ensures.len, c.arrange_hands.ensures.each)
    ∙ ap (λ hands. flat_map (λ h. h.tasks.items) hands) c.self.view_is

pub returns-clause-stands : goal.returns-clause-stands
returns-clause-stands g c pairs all =
    c.stands_stay.ensures pairs c.args.self.now c.arrange_hands.new.hands.items
    (subst (λ hands. AreSameHands g.L.Local.same hands c.arrange_hands.new.hands.items) c.self.view_is
    (c.arrange_hands.ensures.len, c.arrange_hands.ensures.each)) all
