use Rattle.std.proofs.Common.{◌≡◌}
use Rattle.mr_phase.specs.Taking.{IsAhead, left_of}
use Rattle.mr_phase.proofs.Folding.{IsFolding}
use Rattle.mr_phase.proofs.partition.reduce_entries.Given as goal

abbrev pub invariant-loop-cell : goal.invariant-loop-cell
invariant-loop-cell g l = record {
  ahead : IsAhead g.K.Key.lead_of l.ahead;
  all : l.ahead.entries.items ≡ l.fn.entries.items;
  part : l.made.part ≡ l.fn.part;
  folding : IsFolding g.K.Ord.cmp g.C.Combiner.merged g.C.Combiner.over g.R.Reducer.answer l.ahead l.key l.cell l.made;
}

abbrev pub decreases-loop-cell : goal.decreases-loop-cell
decreases-loop-cell g l = left_of l.ahead
