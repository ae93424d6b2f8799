use Rattle.std.proofs.Common.{◌≡◌, ◌++◌, ◌-◌}
use Rattle.mr_items.specs.Generator.{generated}
use Rattle.mr_generator.proofs.Steps.{words_from}
use Rattle.mr_generator.proofs.words.text_of.Given as goal

-- the words so far and those that come are all words
abbrev pub invariant-loop : goal.invariant-loop
invariant-loop l = l.text ++ words_from (l.count - l.counter) l.generator ≡ generated l.seed l.count
