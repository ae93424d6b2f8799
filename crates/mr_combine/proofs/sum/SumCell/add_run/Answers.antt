use Rattle.std.proofs.Common.{rules, ◌≡◌, ◌≤◌, nat_abs, subst, sym, ap, ◌∙◌, w64, to_z, of_z}
use Rattle.std.proofs.lemmas.Int.{to_z-of_z}
use Rattle.mr_defs.specs.Folded.{limit}
use Rattle.mr_combine.specs.Bounded.{within}
use Rattle.mr_combine.specs.Sums.{sum_fits, sum_merged}
use Rattle.mr_combine.proofs.Runs.{run_at_once, sum_within}
use Rattle.mr_combine.proofs.sum.SumCell.add_run.Goals as goal

pub add_to-requires : goal.add_to-requires
add_to-requires g c h =
    let sums = c.sums_of-sums in
    let kept : to_z w64 (of_z w64 sums.result.sum) ≡ sums.result.sum = to_z-of_z w64 sums.result.sum (search rules) in
    subst (λ z. nat_abs z ≤ sums.result.magnitudes) (sym kept)
    (sum_within (g.R.Run.values c.args.run.now) c.len.result sums.result.bound sums.result.magnitudes sums.result.sum c.len.ensures
    (c.is_within.ensures.some c.if-is_within.true)
    (c.is_within.ensures.within c.if-is_within.true) sums.ensures.bound sums.ensures.sum sums.ensures.magnitudes h)

pub returns-then-is_within : goal.returns-then-is_within
returns-then-is_within g c =
    let sums = c.sums_of-sums in
    let kept : to_z w64 (of_z w64 sums.result.sum) ≡ sums.result.sum = to_z-of_z w64 sums.result.sum (search rules) in
    c.add_to.ensures
    ∙ ap (λ z. sum_merged limit c.args.self.now (within (sum_fits limit) (z, sums.result.magnitudes))) kept
    ∙ run_at_once (g.R.Run.values c.args.run.now) c.len.result sums.result.bound sums.result.magnitudes sums.result.sum c.len.ensures
    (c.is_within.ensures.some c.if-is_within.true)
    (c.is_within.ensures.within c.if-is_within.true) sums.ensures.bound sums.ensures.sum sums.ensures.magnitudes c.args.self.now
