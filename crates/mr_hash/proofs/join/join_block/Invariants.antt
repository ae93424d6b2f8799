use Rattle.std.proofs.Common.{◌≡◌, take}
use Rattle.std.specs.FinMap.{find}
use Rattle.mr_defs.specs.Commutative.{joined, joined_by}
use Rattle.mr_container.specs.Entries.{cell_in, seen_of}
use Rattle.mr_hash.specs.Pairs.{pairs_of}
use Rattle.mr_hash.proofs.join.join_block.Given as goal

abbrev pub invariant-loop-nth : goal.invariant-loop-nth
invariant-loop-nth g l = (k : _) → find g.K.Ord.cmp k (pairs_of l.table.entries.items)
    ≡ joined g.C.Combiner.merged (find g.K.Ord.cmp k (pairs_of l.initial.table.entries.items))
    (joined_by g.C.Combiner.merged (cell_in g.K.Ord.cmp k) (seen_of (take l.nth l.block)))
