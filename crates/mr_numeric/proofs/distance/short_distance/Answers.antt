use Rattle.std.proofs.Common.{◌+◌, ◌∙◌, sym, ap₂, arith}
use Rattle.mr_numeric.proofs.Distances.{distance_more, distance_all}
use Rattle.mr_numeric.proofs.distance.short_distance.Goals as goal

pub loop-at-preserved : goal.loop-at-preserved
loop-at-preserved c =
    let at = c.loop-at.at in
    record {
      few = omega (arith, c.loop-at.invariant.few, c.short_square-sum.ensures.small);
      so_far = ap₂ (λ a b. a + b) c.loop-at.invariant.so_far c.short_square-sum.ensures.square
          ∙ sym (distance_more c.args.point.now c.args.mean.now c.requires.alike at (omega (arith, c.loop-at-test.true)));
    }

pub returns : goal.returns
returns c = c.loop-at.invariant.so_far
    ∙ distance_all c.args.point.now c.args.mean.now c.requires.alike c.loop-at.at (omega (arith, c.loop-at-test.false))
