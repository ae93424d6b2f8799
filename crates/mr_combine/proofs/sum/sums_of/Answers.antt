use Rattle.std.proofs.Common.{rules, ◌≡◌, ◌≤◌, ◌<◌, ◌+◌, ◌*◌, ◌%◌, ◌+ℤ◌, bit_or, nat_abs, length, slice_get, Some, take, sym, ap, subst}
use Rattle.std.proofs.Common.{◌∙◌, arith, w64}
use Rattle.std.specs.Int.{int_wrap}
use Rattle.mr_defs.specs.Folded.{magnitude}
use Rattle.std.specs.Prelude.{◌^◌}
use Rattle.std.specs.Int.RustNames.{FitsSigned}
use Rattle.std.proofs.lemmas.Int.{wrapping_add_onto, to_z-of_z}
use Rattle.mr_combine.proofs.Runs.{total_more, magnitudes_more, bound_more}
use Rattle.mr_combine.proofs.sum.sums_of.Goals as goal

pub loop-i-preserved : goal.loop-i-preserved
loop-i-preserved g c =
    let vs = g.R.Run.values c.args.run.now in
    let i = c.loop-i.i in
    let v = c.value-value.result in
    let below : i < length vs = omega (arith, c.loop-i-test.true, c.len-i-end.ensures) in
    let is : slice_get vs i ≡ Some v = c.value-value.ensures.value in
    let fits : FitsSigned w64 v = search rules in
    let held : c.loop-i.sum-bits < 2 ^ 64 = search rules in
    let size : c.unsigned_abs-size.result ≡ nat_abs v = c.unsigned_abs-size.ensures.value ∙ ap nat_abs (to_z-of_z w64 v fits) in
    record {
      sum = wrapping_add_onto w64 c.loop-i.sum-bits v held fits ∙ ap (λ z. int_wrap w64 (z +ℤ v)) c.loop-i.invariant.sum
          ∙ total_more vs i v below is;
      magnitudes = λ few. ap (λ n. (c.loop-i.magnitudes + n) % 2 ^ 64) size
          ∙ magnitudes_more vs i v below is c.loop-i.magnitudes c.loop-i.invariant.magnitudes few;
      bound = subst (λ n. magnitude (take (i + 1) vs) ≤ (i + 1) * bit_or c.loop-i.bound n) (sym size)
          (bound_more vs i v below is c.loop-i.bound c.loop-i.invariant.bound);
    }
