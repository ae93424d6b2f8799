use Rattle.std.proofs.Common.{◌≡◌, ◌%◌, map, take}
use Rattle.mr_phase.proofs.ahead.places_of.Given as goal

abbrev pub invariant-loop-word : goal.invariant-loop-word
invariant-loop-word l = l.places.items ≡ map (λ w. w % l.count) (take l.word-index l.words)
