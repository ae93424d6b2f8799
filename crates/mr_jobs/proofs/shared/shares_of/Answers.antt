use Rattle.std.proofs.Common.{◌∷◌, ◌++◌, [], Some, ap, map, sym, ◌∙◌}
use Rattle.std.proofs.lemmas.List.{take_all}
use Rattle.std.proofs.lemmas.Option.{slice_get-get_or}
use Rattle.mr_phase.specs.declared.common.CommonHand.{CommonHand}
use Rattle.mr_report.specs.Shown.{work_of}
use Rattle.mr_report.specs.declared.printing.Share.{Share}
use Rattle.mr_jobs.proofs.Sharing.{one_more}
use Rattle.mr_jobs.proofs.shared.shares_of.Goals as goal

pub loop-hand-preserved : goal.loop-hand-preserved
loop-hand-preserved c =
    let hands = c.as_slice-hand-items.result.now in
    let at = c.loop-hand.hand-index in
    let hand = c.hand-item.result in
    let share : Share = record { tasks = c.in_ok-tasks.tasks; cells = hand.cells } in
    one_more work_of (λ (h : CommonHand). (h.tasks.items, h.cells)) c.loop-hand.shares.items c.push.new.self.items share hands at hand
    (slice_get-get_or hands at hand c.loop-hand-test.true ∙ ap Some (sym c.hand-item.is))
    (ap (λ tasks. (tasks, hand.cells)) (c.in_ok-tasks.ensures ∙ c.as_slice.ensures))
    (c.push.ensures.items ∙ ap (λ l. l ++ share ∷ []) c.room.ensures.items) c.loop-hand.invariant

pub returns : goal.returns
returns c = c.loop-hand.invariant ∙ ap (map (λ (h : CommonHand). (h.tasks.items, h.cells)))
    (take_all c.loop-hand.hand-index c.as_slice-hand-items.result.now c.loop-hand-test.false ∙ c.as_slice-hand-items.ensures)
