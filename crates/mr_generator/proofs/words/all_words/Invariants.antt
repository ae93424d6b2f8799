use Rattle.std.proofs.Common.{◌≡◌}
use Rattle.mr_generator.specs.Words.{words_below}
use Rattle.mr_generator.proofs.words.all_words.Given as goal

abbrev pub invariant-loop-number : goal.invariant-loop-number
invariant-loop-number l = l.words.items ≡ words_below l.number
