use Rattle.std.proofs.Common.{◌≡◌, ◌+◌, [], length, nat_lt}
use Rattle.std.specs.Prelude.{All}
use Rattle.std.specs.Ordering.{nat_cmp}
use Rattle.mr_base.specs.Noting.{noted_of}
use Rattle.mr_common.specs.Passes.{ArePassesOf, IsUnused, won, refused}
use Rattle.mr_defs.specs.Stands.{SharesFor}
use Rattle.mr_phase.proofs.common.locals_over.Given as goal

abbrev pub invariant-loop-pass : goal.invariant-loop-pass
invariant-loop-pass l = (length l.passes.items + length l.locals.items ≡ length l.fn.passes.items)
    × ArePassesOf l.array.table.shared.table_id l.array.size l.passes.items × All IsUnused l.passes.items
    × All (λ s. s.array.now ≡ l.array) l.locals.items
    × All (λ s. SharesFor nat_cmp (λ k. nat_lt k s.array.now.size) (won s.pass) (refused s.pass) s.cells (noted_of s.faults) [])
    l.locals.items

abbrev pub decreases-loop-pass : goal.decreases-loop-pass
decreases-loop-pass l = length l.passes.items
