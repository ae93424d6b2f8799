use Rattle.std.proofs.Common.{◌++◌, length, map}
use Rattle.std.specs.Prelude.{All}
use Rattle.std.specs.List.Sorted.{IsPermutation, IsStrictlySortedBy}
use Rattle.mr_defs.specs.Partitions.{concatenated}
use Rattle.mr_merge.specs.Lists.{rows_of}
use Rattle.mr_merge.specs.Rising.{Rises, rank}
use Rattle.mr_merge.proofs.merge.entries_of.Given as goal

abbrev pub invariant-loop-list : goal.invariant-loop-list
invariant-loop-list g l = record {
  all : IsPermutation (concatenated l.fn.lists.items) (concatenated l.lists.items ++ rows_of l.entries.items);
  left : All (λ list. IsStrictlySortedBy g.K.Ord.cmp (map (λ row. row.0) list)) l.lists.items;
  each : All (λ list. Rises (rank g.K.Ord.cmp) list.items) l.entries.items;
}

abbrev pub decreases-loop-list : goal.decreases-loop-list
decreases-loop-list g l = length l.lists.items
