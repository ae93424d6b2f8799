use Rattle.std.proofs.Common.{true, ap, ◌==◌, ◌%◌}
use Rattle.std.specs.FinMap.{find}
use Rattle.mr_container.proofs.Emitted.{stands_empty}
use Rattle.mr_container.proofs.Partitions.{part_ascends}
use Rattle.mr_container.proofs.sorted.SortedLocal.new.Goals as goal

pub returns-clause-empty : goal.returns-clause-empty
returns-clause-empty g c =
    let none = c.none.ensures in
    stands_empty (λ _. true) g.C.Combiner.unit_of g.C.Combiner.merged _ _ _ (λ q. ap (find g.K.Ord.cmp q) c.new.ensures.items)
    c.new.ensures.len none.malformed none.outside none.twice none.over

pub returns-clause-ascending : goal.returns-clause-ascending
returns-clause-ascending g c s cursor =
    part_ascends g.K.Ord.cmp (λ k. g.K.Key.hash_of k % cursor.parts == cursor.part) cursor.place s.entries.items s.ascending
