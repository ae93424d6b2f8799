use Rattle.std.proofs.Common.{get_or, set, add-one, refl, sym, ap, ◌∙◌, arith}
use Rattle.std.proofs.Math.ListN.{length-set}
use Rattle.mr_defs.specs.Folded.{limit}
use Rattle.mr_combine.specs.Zipped.{zip_none}
use Rattle.mr_combine.specs.Sums.{sum_merged}
use Rattle.mr_combine.proofs.Zipped.{zip_more}
use Rattle.mr_combine.proofs.coordinates.add_first.Goals as goal

pub loop-at-init : goal.loop-at-init
loop-at-init g c = record { added = sym (zip_none (sum_merged limit) c.args.sums.now); long = refl }

pub loop-at-preserved : goal.loop-at-preserved
loop-at-preserved g c = record {
  added =
      let f = g.S.Summand.sum_of in
      let sums = c.loop-at.sums in
      let at = c.loop-at.at in
      let others = c.args.others.now in
      rw (add-one at)
      (ap (set sums at) (c.add_to.ensures ∙ ap (λ o. sum_merged limit (get_or sums at c.index-sums-at.result) (f o)) c.index-others-at.is)
      ∙ ap (λ l. set l at (sum_merged limit (get_or l at c.index-sums-at.result) (f (get_or others at c.index-others-at.result))))
      c.loop-at.invariant.added
      ∙ sym (zip_more (sum_merged limit) f c.args.sums.now others at c.index-sums-at.result c.index-others-at.result (omega arith)
      (omega arith)));
  long = omega (arith, length-set c.loop-at.sums c.loop-at.at c.add_to.new.cell);
}
