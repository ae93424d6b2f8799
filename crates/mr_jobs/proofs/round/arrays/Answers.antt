use Rattle.std.proofs.Common.{[], arith}
use Rattle.std.specs.Ordering.{nat_cmp}
use Rattle.mr_array.specs.Cells.{is_below, cell_under, filled}
use Rattle.mr_base.specs.Noting.{noted_of}
use Rattle.mr_defs.specs.Stands.{StandsFor}
use Rattle.mr_jobs.proofs.Sharing.{counted, each_pushed}
use Rattle.mr_jobs.proofs.round.arrays.Goals as goal

pub loop-preserved : goal.loop-preserved
loop-preserved g c =
    let was = c.loop.invariant in
    let pushed = c.push.ensures.items in (
      counted c.loop.arrays.items c.push.new.self.items c.in_ok-new.field-0 c.loop.counter pushed was.0,
      omega (arith, was.1, c.push.ensures.spare),
      each_pushed c.loop.arrays.items c.push.new.self.items c.in_ok-new.field-0
          (λ s. StandsFor nat_cmp (is_below g.S.Size.size) g.C.Combiner.unit_of g.C.Combiner.merged (cell_under s.cells.items)
          (filled s.cells.items) (noted_of s.faults) []) pushed was.2 c.in_ok-new.ensures.empty,
    )
