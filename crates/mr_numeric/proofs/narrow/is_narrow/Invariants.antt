use Rattle.std.proofs.Common.{◌≤◌, take, nat_abs}
use Rattle.std.specs.List.{All}
use Rattle.mr_numeric.proofs.narrow.is_narrow.Given as goal

abbrev pub invariant-loop-number : goal.invariant-loop-number
invariant-loop-number l = All (λ z. nat_abs z ≤ 1448) (take l.number-index l.numbers)
