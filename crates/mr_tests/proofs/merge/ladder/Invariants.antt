use Rattle.std.proofs.Common.{◌≡◌, ◌+◌, ◌*◌, map}
use Rattle.std.specs.List.{range_with_len}
use Rattle.mr_tests.proofs.merge.ladder.Given as goal

abbrev pub invariant-loop-j : goal.invariant-loop-j
invariant-loop-j l = map (λ row. row.0) l.rows ≡ map (λ j. j * 64 + l.from) (range_with_len 0 l.j)
