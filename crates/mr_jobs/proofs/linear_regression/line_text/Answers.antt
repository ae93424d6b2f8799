use Rattle.std.proofs.Common.{subst}
use Rattle.std.specs.Ordering.{nat_cmp}
use Rattle.mr_defs.specs.Folded.{sum_folded}
use Rattle.mr_items.specs.LinearRegression.{linear_regression_emissions}
use Rattle.mr_jobs.specs.Meaning.{inside_of, is_shared}
use Rattle.mr_jobs.proofs.Passed.{passed_rows}
use Rattle.mr_numeric.proofs.SumRows.{are_sums}
use Rattle.mr_numeric.specs.Sums.{AreSums}
use Rattle.mr_jobs.proofs.linear_regression.line_text.Goals as goal

pub regression_text-requires : goal.regression_text-requires
regression_text-requires g c =
    let inside = inside_of c.args.job.now.container c.args.job.now.capacity in
    let es = linear_regression_emissions c.args.grid.now in
    subst AreSums (passed_rows nat_cmp inside (is_shared c.args.job.now.container) sum_folded es c.in_ok-rows-in-Ok.rows
    (c.in-Ok.ensures.rows c.in_ok-rows-in-Ok.rows
    (record { all = c.in_ok-rows-in-Ok.ensures.all; ascend = c.in_ok-rows-in-Ok.ensures.ascends })))
    (are_sums inside es)
