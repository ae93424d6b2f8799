use Rattle.std.proofs.Common.{◌≡◌, ap, ◌∙◌, arith}
use Rattle.mr_generator.specs.Words.{words_below}
use Rattle.mr_generator.proofs.Steps.{words_none, words_more}
use Rattle.mr_generator.proofs.words.all_words.Goals as goal

pub loop-number-init : goal.loop-number-init
loop-number-init c = words_none _ c.new-words.ensures.items

pub loop-number-preserved : goal.loop-number-preserved
loop-number-preserved c = words_more _ _ _ _ c.loop-number.invariant c.in_ok-word.ensures c.in_ok-push.ensures.items

pub returns : goal.returns
returns c = c.loop-number.invariant ∙ ap words_below last
  where
    last : c.loop-number.number ≡ 5000
    last = omega (arith, c.loop-number-test.false, c.loop-number.auto.number-end)
