use Rattle.std.proofs.Common.{◌≡◌, ◌≤◌, ◌+◌, [], length}
use Rattle.std.specs.Prelude.{All}
use Rattle.std.specs.Ordering.{nat_cmp}
use Rattle.mr_array.specs.Cells.{is_below, cell_under, filled}
use Rattle.mr_base.specs.Noting.{noted_of}
use Rattle.mr_defs.specs.Stands.{StandsFor}
use Rattle.mr_jobs.proofs.round.arrays.Given as goal

abbrev pub invariant-loop : goal.invariant-loop
invariant-loop g l = (length l.arrays.items ≡ l.counter) × (l.count ≤ l.arrays.spare + l.counter)
    × All (λ s. StandsFor nat_cmp (is_below g.S.Size.size) g.C.Combiner.unit_of g.C.Combiner.merged (cell_under s.cells.items)
    (filled s.cells.items) (noted_of s.faults) []) l.arrays.items
