use Rattle.std.proofs.Common.{◌≡◌, ◌++◌, take}
use Rattle.std.specs.Prelude.{flat_map}
use Rattle.mr_items.specs.Texts.{spaced}
use Rattle.mr_base.proofs.answer.print_list.Given as goal

abbrev pub invariant-loop-number : goal.invariant-loop-number
invariant-loop-number l = l.text ≡ l.initial.text ++ flat_map spaced (take l.number-index l.numbers)
