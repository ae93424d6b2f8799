use Rattle.std.proofs.Common.{◌≡◌, ◌≤◌, ◌-◌, take, length}
use Rattle.std.specs.FinMap.{find}
use Rattle.mr_defs.specs.Commutative.{joined_by}
use Rattle.mr_container.specs.Entries.{cell_in, seen_of}
use Rattle.mr_hash.specs.Pairs.{pairs_of}
use Rattle.mr_hash.proofs.join.join_all.Given as goal

abbrev pub invariant-loop-at : goal.invariant-loop-at
invariant-loop-at g l = record {
  inside : l.at ≤ length l.lent;
  found : (k : _) → find g.K.Ord.cmp k (pairs_of l.table.entries.items)
      ≡ joined_by g.C.Combiner.merged (cell_in g.K.Ord.cmp k) (seen_of (take l.at l.lent));
}

abbrev pub decreases-loop-at : goal.decreases-loop-at
decreases-loop-at g l = length l.lent - l.at
