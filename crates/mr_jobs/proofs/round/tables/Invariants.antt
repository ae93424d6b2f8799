use Rattle.std.proofs.Common.{◌≡◌, ◌≤◌, ◌+◌, [], true, length}
use Rattle.std.specs.Prelude.{All}
use Rattle.std.specs.FinMap.{find}
use Rattle.mr_base.specs.Noting.{noted_of}
use Rattle.mr_defs.specs.Stands.{StandsFor}
use Rattle.mr_hash.specs.Pairs.{pairs_of}
use Rattle.mr_jobs.proofs.round.tables.Given as goal

abbrev pub invariant-loop : goal.invariant-loop
invariant-loop g l = (length l.tables.items ≡ l.counter) × (l.count ≤ l.tables.spare + l.counter)
    × All (λ s. StandsFor g.K.Ord.cmp (λ _. true) g.C.Combiner.unit_of g.C.Combiner.merged
    (λ k. find g.K.Ord.cmp k (pairs_of s.table.entries.items)) (length s.table.entries.items)
    (noted_of s.faults.value) []) l.tables.items
