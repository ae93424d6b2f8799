use Rattle.std.proofs.Common.{◌≡◌, ◌++◌, OnOk, subst, ◌∙◌, arith}
use Rattle.mr_generator.proofs.Steps.{word_at, words_length}
use Rattle.mr_generator.proofs.words.push_word.Goals as goal

pub bounds-words-output : goal.bounds-words-output
bounds-words-output c = omega (arith, words_length _ _ c.requires)

pub returns : goal.returns
returns c =
    subst (λ word. OnOk c.print.result (c.print.new.text ≡ c.args.text.now ++ word))
    (c.index-words-output.is ∙ word_at _ _ _ c.requires) c.print.ensures.ok
