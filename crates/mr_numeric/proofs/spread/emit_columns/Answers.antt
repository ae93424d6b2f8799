use Rattle.std.proofs.Common.{arith}
use Rattle.mr_numeric.specs.Blocks.{column_runs}
use Rattle.mr_numeric.proofs.Emitted.{one_more}
use Rattle.mr_numeric.proofs.spread.emit_columns.Goals as goal

pub loop-i-preserved : goal.loop-i-preserved
loop-i-preserved g c = record {
  stands = λ es h. one_more (column_runs c.args.columns.now) 0 (g.L.Local.stands c.emit_runs.new.out) es c.loop-i.i (omega arith)
      (c.in_ok-emit_runs.ensures.ok _ (c.loop-i.invariant.stands es h));
  spares = c.in_ok-emit_runs.ensures.spares;
  origin = g.met.L.Local.origin_trans _ _ _ c.loop-i.invariant.origin c.in_ok-emit_runs.ensures.origin;
}
