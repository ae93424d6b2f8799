use Rattle.std.proofs.Common.{[], ◌∷◌, ◌++◌, ap, ◌∙◌}
use Rattle.mr_base.specs.Noting.{noted_of}
use Rattle.mr_phase.specs.Common.{hand_of}
use Rattle.mr_phase.specs.declared.common.CommonHand.{CommonHand}
use Rattle.mr_phase.proofs.Leaving.{faults_left, goes_on}
use Rattle.mr_phase.proofs.common.leave_all.Goals as goal

pub loop-hand-preserved : goal.loop-hand-preserved
loop-hand-preserved c =
    let hand = c.in-Some.hand in
    let told : CommonHand = record { tasks = hand.tasks; cells = c.cells-cells.result } in
    let hands = c.loop-hand.hands.items in
    let passes = c.loop-hand.passes.items in
    goes_on hand_of (λ h. h.local.pass)
    (λ h. noted_of h.local.faults) c.args.mapped c.loop-hand.all.items c.pop.new.self.items hand hands c.push-in-Some.new.self.items passes
    c.push.new.self.items
    (noted_of c.loop-hand.faults) (noted_of c.leave-pass.result.1) (noted_of c.merge.new.self) c.loop-hand.invariant c.in-Some.ensures.0
    (c.push-in-Some.ensures.items ∙ ap (λ l. l ++ told ∷ []) c.room.ensures.items
    ∙ (λ i. hands ++ record { tasks = hand.tasks; cells = c.cells-cells.ensures i } ∷ []))
    (c.push.ensures.items ∙ ap (λ l. l ++ c.leave-pass.result.0 ∷ []) c.room-in-Some.ensures.items
    ∙ ap (λ p. passes ++ p ∷ []) c.leave-pass.ensures.left.0)
    c.merge.ensures.malformed c.merge.ensures.outside c.merge.ensures.twice c.merge.ensures.over (ap noted_of c.leave-pass.ensures.left.1)

pub returns-clause-faults : goal.returns-clause-faults
returns-clause-faults c =
    faults_left hand_of (λ h. h.local.pass)
    (λ h. noted_of h.local.faults) c.args.mapped c.loop-hand.all.items c.loop-hand.hands.items c.loop-hand.passes.items
    (noted_of c.loop-hand.faults) c.loop-hand.invariant c.in_default.ensures.0
