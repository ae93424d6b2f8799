use Rattle.mr_phase.proofs.Gathering.{reduced_at}
use Rattle.mr_phase.proofs.partition.reduce_read.Goals as goal

pub returns-clause-reduced : goal.returns-clause-reduced
returns-clause-reduced g c =
    reduced_at g.met.L.Key.Ord.total g.met.L.Key.Key.only_equal_tie g.met.L.Fold.Combiner.laws (λ h. g.L.Parted.cell h.local)
    (g.L.Parted.part_of c.args.parts) c.args.part g.L.Fold.Combiner.over g.R.Reducer.answer c.args.mapped.now
    c.read_hands.new.entries.items c.in_ok-made.made c.in_ok-read_hands.ensures c.in_ok-made.ensures.folds
