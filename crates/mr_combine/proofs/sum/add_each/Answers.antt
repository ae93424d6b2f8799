use Rattle.std.proofs.Common.{rules, ap, ◌∙◌, arith, w64}
use Rattle.std.proofs.lemmas.Int.{to_z-of_z}
use Rattle.mr_defs.specs.Folded.{limit}
use Rattle.mr_combine.specs.Sums.{sum_unit, sum_merged}
use Rattle.mr_combine.proofs.Runs.{added_more}
use Rattle.mr_combine.proofs.sum.add_each.Goals as goal

pub loop-i-preserved : goal.loop-i-preserved
loop-i-preserved g c =
    c.add.ensures
    ∙ ap (λ z. sum_merged limit c.loop-i.cell (sum_unit limit z)) (to_z-of_z w64 c.value.result (search rules))
    ∙ added_more (g.R.Run.values c.args.run.now) c.loop-i.i c.value.result
    (omega (arith, c.loop-i-test.true, c.len-i-end.ensures)) c.value.ensures.value (sum_unit limit)
    (sum_merged limit) c.args.cell.now c.loop-i.cell c.loop-i.invariant
