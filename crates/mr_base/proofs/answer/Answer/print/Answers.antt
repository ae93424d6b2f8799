use Rattle.std.proofs.Common.{rules, [], ◌∷◌, ◌++◌, ap, ◌∙◌, append_assoc}
use Rattle.std.specs.Fmt.{signed_decimal}
use Rattle.std.specs.Int.{w128}
use Rattle.std.proofs.lemmas.Int.{to_z-of_z}
use Rattle.mr_items.specs.Texts.{spaced}
use Rattle.mr_base.proofs.Read.{appended}
use Rattle.mr_base.proofs.answer.Answer.print.Goals as goal

pub loop-i-preserved : goal.loop-i-preserved
loop-i-preserved c =
    c.in_ok-push_number.ensures.ok
    ∙ ap (λ z. c.push.new.self ++ signed_decimal z) (to_z-of_z w128 c.number.result (search rules))
    ∙ ap (λ t. t ++ signed_decimal c.number.result) c.in_ok-push.ensures.ok
    ∙ append_assoc c.loop-i.text (32 ∷ []) (signed_decimal c.number.result)
    ∙ appended spaced c.args.text.now c.loop-i.text c.args.self.now c.loop-i.i c.number.result c.number.ensures c.loop-i.invariant
