use Rattle.std.proofs.Common.{take}
use Rattle.mr_container.specs.Entries.{seen_of}
use Rattle.mr_phase.proofs.Gathering.{Gathered}
use Rattle.mr_phase.proofs.partition.read_hands.Given as goal

abbrev pub invariant-loop-hand : goal.invariant-loop-hand
invariant-loop-hand g l = Gathered g.L.Key.Ord.cmp g.L.Fold.Combiner.merged (λ h. g.L.Parted.cell h.local)
    (g.L.Parted.part_of l.parts) l.part (take l.hand-index l.hand-items) (seen_of l.entries.items)
