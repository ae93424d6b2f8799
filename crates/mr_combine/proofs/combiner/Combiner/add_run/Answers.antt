use Rattle.std.proofs.Common.{◌∙◌, arith}
use Rattle.mr_combine.proofs.Runs.{added_more}
use Rattle.mr_combine.proofs.combiner.Combiner.add_run.Goals as goal

pub loop-i-preserved : goal.loop-i-preserved
loop-i-preserved g c =
    c.in_ok-add.ensures.ok
    ∙ added_more (g.R.Run.values c.args.run.now) c.loop-i.i c.value.result
    (omega (arith, c.loop-i-test.true, c.len-i-end.ensures)) c.value.ensures.value g.Self.Combiner.unit_of g.Self.Combiner.merged
    c.args.cell.now c.loop-i.cell c.loop-i.invariant
