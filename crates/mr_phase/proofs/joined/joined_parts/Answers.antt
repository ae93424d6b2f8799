use Rattle.std.proofs.Common.{◌*◌, arith}
use Rattle.std.proofs.Math.Nat.{one-le-mul}
use Rattle.mr_defs.specs.Commutative.{joined_by}
use Rattle.mr_phase.proofs.Finer.{joined_more, all_joined}
use Rattle.mr_phase.proofs.joined.joined_parts.Goals as goal

pub loop-nth-preserved : goal.loop-nth-preserved
loop-nth-preserved g c =
    joined_more g.L.Key.Ord.cmp g.met.L.Key.Key.only_equal_tie g.met.L.Fold.Combiner.laws
    (λ k. joined_by g.L.Fold.Combiner.merged (λ h. g.L.Parted.cell h.local k) c.args.mapped.now)
    (g.L.Parted.part_of (c.args.parts * c.args.finer)) c.args.parts c.args.part c.loop-nth.nth c.loop-nth.lists.items c.push.new.self.items
    c.in_ok-list.list c.read_hands.new.entries.items c.deref.result.now c.requires.part c.in_ok-push.ensures.items c.deref.ensures.value
    c.in_ok-read_hands.ensures c.in_ok-list.ensures c.loop-nth.invariant

pub returns : goal.returns
returns g c =
    all_joined g.L.Key.Ord.cmp g.met.L.Key.Key.only_equal_tie g.met.L.Fold.Combiner.laws
    (λ k. joined_by g.L.Fold.Combiner.merged (λ h. g.L.Parted.cell h.local k) c.args.mapped.now)
    (g.L.Parted.part_of (c.args.parts * c.args.finer)) c.args.parts c.args.part c.loop-nth.nth c.args.finer c.loop-nth.lists.items
    (g.L.Parted.part_of c.args.parts) c.requires.some.0 (omega arith)
    (λ k. g.met.L.Parted.parts_below (c.args.parts * c.args.finer) k (one-le-mul c.requires.some.0 c.requires.some.1))
    (λ k. g.met.L.Parted.parts_nest c.args.parts c.args.finer k c.requires.some.0 c.requires.some.1) c.loop-nth.invariant
