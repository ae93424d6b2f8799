use Rattle.std.proofs.Common.{refl, ap, ◌∙◌, ◌+◌, ◌++◌, ◌∷◌, []}
use Rattle.mr_phase.proofs.Packing.{words_more}
use Rattle.mr_phase.proofs.order.words_of.Goals as goal

pub loop-lead-preserved : goal.loop-lead-preserved
loop-lead-preserved c =
    let i = c.loop-lead.invariant in (
      ap (λ n. n + 1) i.0,
      i.1,
      words_more c.args.unit _ c.args.leads.now c.loop-lead.lead-index c.loop-lead.at _ c.loop-lead.words.items c.push.new.self.items
          c.loop-lead-test.true i.0 refl i.2 (c.in_ok-push.ensures.items ∙ ap (λ w. c.loop-lead.words.items ++ w ∷ []) c.word_of.ensures),
    )
