use Rattle.std.proofs.Common.{◌==◌, if◌then◌else◌, None, ap, ◌∙◌}
use Rattle.std.proofs.lemmas.List.{take_all}
use Rattle.mr_defs.specs.Commutative.{joined_by}
use Rattle.mr_container.specs.Entries.{seen_of}
use Rattle.mr_phase.proofs.Gathering.{gathered_more}
use Rattle.mr_phase.proofs.partition.read_hands.Goals as goal

pub loop-hand-preserved : goal.loop-hand-preserved
loop-hand-preserved g c =
    gathered_more g.L.Key.Ord.cmp g.met.L.Key.Key.only_equal_tie g.met.L.Fold.Combiner.laws (λ h. g.L.Parted.cell h.local)
    (g.L.Parted.part_of c.args.parts) c.args.part c.as_slice-hand-items.result.now c.loop-hand.hand-index c.hand-item.result
    (seen_of c.loop-hand.entries.items)
    (seen_of c.add_part.new.entries.items) c.loop-hand-test.true c.hand-item.is c.in_ok-add_part.ensures c.loop-hand.invariant

pub returns : goal.returns
returns g c k = c.loop-hand.invariant k
    ∙ ap (λ hands. if g.L.Parted.part_of c.args.parts k == c.args.part
    then joined_by g.L.Fold.Combiner.merged (λ h. g.L.Parted.cell h.local k) hands else None)
    (take_all c.loop-hand.hand-index c.as_slice-hand-items.result.now c.loop-hand-test.false ∙ c.as_slice-hand-items.ensures
    ∙ c.mapped.view_is)
