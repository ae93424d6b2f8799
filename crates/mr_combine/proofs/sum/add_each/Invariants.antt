use Rattle.std.proofs.Common.{◌≡◌, take}
use Rattle.mr_defs.specs.Folded.{limit}
use Rattle.mr_combine.specs.Runs.{added}
use Rattle.mr_combine.specs.Sums.{sum_unit, sum_merged}
use Rattle.mr_combine.proofs.sum.add_each.Given as goal

abbrev pub invariant-loop-i : goal.invariant-loop-i
invariant-loop-i g l = l.cell ≡ added (sum_unit limit) (sum_merged limit) l.initial.cell (take l.i (g.R.Run.values l.run))
