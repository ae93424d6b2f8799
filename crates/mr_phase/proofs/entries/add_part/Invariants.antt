use Rattle.std.proofs.Common.{length}
use Rattle.mr_container.specs.Entries.{seen_of}
use Rattle.mr_phase.proofs.Gathering.{Reading}
use Rattle.mr_phase.proofs.entries.add_part.Given as goal

abbrev pub invariant-loop-key : goal.invariant-loop-key
invariant-loop-key g l = g.L.Parted.stands_in l.local l.cursor
    × Reading g.L.Key.Ord.cmp (g.L.Parted.cell l.local) (g.L.Parted.part_of l.parts) l.part (seen_of l.fn.entries.items)
    (seen_of l.entries.items) (g.L.Parted.left l.local l.cursor)

abbrev pub decreases-loop-key : goal.decreases-loop-key
decreases-loop-key g l = length (g.L.Parted.left l.local l.cursor)
