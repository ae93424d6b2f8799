use Rattle.std.proofs.Common.{[], true, length, arith}
use Rattle.std.specs.FinMap.{find}
use Rattle.mr_base.specs.Noting.{noted_of}
use Rattle.mr_defs.specs.Stands.{StandsFor}
use Rattle.mr_hash.specs.Pairs.{pairs_of}
use Rattle.mr_jobs.proofs.Sharing.{counted, each_pushed}
use Rattle.mr_jobs.proofs.round.tables.Goals as goal

pub loop-preserved : goal.loop-preserved
loop-preserved g c =
    let was = c.loop.invariant in
    let pushed = c.push.ensures.items in (
      counted c.loop.tables.items c.push.new.self.items c.in_ok-new.field-0 c.loop.counter pushed was.0,
      omega (arith, was.1, c.push.ensures.spare),
      each_pushed c.loop.tables.items c.push.new.self.items c.in_ok-new.field-0
          (λ s. StandsFor g.K.Ord.cmp (λ _. true) g.C.Combiner.unit_of g.C.Combiner.merged
          (λ k. find g.K.Ord.cmp k (pairs_of s.table.entries.items)) (length s.table.entries.items)
          (noted_of s.faults.value) []) pushed was.2 c.in_ok-new.ensures.empty,
    )
