use Rattle.std.proofs.Common.{◌*◌}
use Rattle.mr_defs.specs.Commutative.{joined_by}
use Rattle.mr_phase.proofs.Finer.{AreJoinedBelow}
use Rattle.mr_phase.proofs.joined.joined_parts.Given as goal

abbrev pub invariant-loop-nth : goal.invariant-loop-nth
invariant-loop-nth g l =
    AreJoinedBelow g.L.Key.Ord.cmp g.L.Fold.Combiner.merged (λ k. joined_by g.L.Fold.Combiner.merged (λ h. g.L.Parted.cell h.local k) l.mapped)
    (g.L.Parted.part_of (l.parts * l.finer)) l.parts l.part l.nth l.lists.items
