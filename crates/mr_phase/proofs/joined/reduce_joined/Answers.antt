use Rattle.std.proofs.Common.{◌∙◌, ap, flat_map}
use Rattle.mr_defs.specs.Commutative.{joined_by}
use Rattle.mr_container.specs.Entries.{cell_in}
use Rattle.mr_hash.specs.Pairs.{pairs_of}
use Rattle.mr_phase.proofs.Gathering.{reduced_at}
use Rattle.mr_phase.proofs.joined.reduce_joined.Goals as goal

pub returns-clause-reduced : goal.returns-clause-reduced
returns-clause-reduced g c =
    reduced_at g.met.L.Key.Ord.total g.met.L.Key.Key.only_equal_tie g.met.L.Fold.Combiner.laws (λ h. g.L.Parted.cell h.local)
    (g.L.Parted.part_of c.args.parts) c.args.part g.L.Fold.Combiner.over g.R.Reducer.answer c.args.mapped.now
    c.in_ok-entries.entries.items c.in_ok-made.made
    (λ k. ap (joined_by g.L.Fold.Combiner.merged (cell_in g.L.Key.Ord.cmp k))
    (c.in_ok-entries.ensures ∙ ap (flat_map (λ list. pairs_of list.items)) c.as_slice.ensures.value)
    ∙ c.in_ok-lists.ensures k) c.in_ok-made.ensures.folds
