use Rattle.std.proofs.Common.{◌≡◌, ◌+◌, ◌-◌, suc, ◌∙◌, arith}
use Rattle.mr_generator.proofs.Steps.{words_first, words_step, words_last}
use Rattle.mr_generator.proofs.words.text_of.Goals as goal

pub loop-init : goal.loop-init
loop-init c = words_first _ _ _ _ (c.in_ok-reserve.ensures ∙ c.new-text.ensures) c.seed_from_u64-generator.ensures.same

pub loop-preserved : goal.loop-preserved
loop-preserved c = words_step _ _ _ _ _ _ _ fewer c.next_word.ensures c.in_ok-push_word.ensures ∙ c.loop.invariant
  where
    fewer : c.args.count - c.loop.counter ≡ suc (c.args.count - (c.loop.counter + 1))
    fewer = omega (arith, c.loop-test.true)

pub returns : goal.returns
returns c = words_last _ _ _ _ none c.loop.invariant
  where
    none : c.args.count - c.loop.counter ≡ 0
    none = omega (arith, c.loop-test.false)
