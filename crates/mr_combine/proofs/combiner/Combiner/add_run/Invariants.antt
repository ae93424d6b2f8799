use Rattle.std.proofs.Common.{◌≡◌, take}
use Rattle.mr_combine.specs.Runs.{added}
use Rattle.mr_combine.proofs.combiner.Combiner.add_run.Given as goal

abbrev pub invariant-loop-i : goal.invariant-loop-i
invariant-loop-i g l = l.cell ≡ added g.Self.Combiner.unit_of g.Self.Combiner.merged l.initial.cell (take l.i (g.R.Run.values l.run))
