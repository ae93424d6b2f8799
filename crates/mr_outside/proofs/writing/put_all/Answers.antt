use Rattle.std.proofs.Common.{◌∙◌, refl, arith}
use Rattle.mr_outside.proofs.Gained.{appends_more}
use Rattle.mr_outside.proofs.writing.put_all.Goals as goal

pub loop-done-preserved : goal.loop-done-preserved
loop-done-preserved g c = record {
  inside = omega (arith, c.in-Took.ensures.takes);
  held = appends_more _ _ _ c.args.bytes.now c.loop-done.done c.in-Took.n c.loop-done.invariant.held c.in-Took.ensures.takes.2;
  quiet = c.in-Took.ensures.quiet c.in-Took.n refl ∙ c.loop-done.invariant.quiet;
}
