use Rattle.std.proofs.Common.{◌≡◌, take}
use Rattle.mr_generator.proofs.words.as_keys.Given as goal

abbrev pub invariant-loop-word : goal.invariant-loop-word
invariant-loop-word l = l.keys.items ≡ take l.word-index l.words
