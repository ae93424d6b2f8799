use Rattle.std.proofs.Common.{rules, ◌≡◌, true, length, sym, subst}
use Rattle.std.specs.Prelude.{decimal}
use Rattle.std.specs.List.{range_with_len}
use Rattle.std.specs.Ordering.{nat_cmp}
use Rattle.mr_capacity.specs.Folds.{folded}
use Rattle.mr_capacity.specs.declared.kinds.CombinerKind.TheVariants as combiner
use Rattle.mr_defs.specs.Folded.{sum_folded}
use Rattle.mr_defs.specs.Tasks.{spans_of}
use Rattle.mr_items.specs.LinearRegression.{is_regression_shape, linear_regression_emits, regression_text}
use Rattle.mr_jobfile.specs.Seen.{seen}
use Rattle.mr_jobs.specs.Meaning.{inside_of, is_shared, number_spans, once}
use Rattle.mr_jobs.specs.Outputs.{IsOutputOf}
use Rattle.mr_jobs.specs.Reported.{reported}
use Rattle.mr_jobs.proofs.Inputs.{of_shape}
use Rattle.mr_jobs.proofs.Outputs.{once_output}
use Rattle.mr_jobs.proofs.linear_regression.line_through.Goals as goal

pub returns : goal.returns
returns g c =
    let j = seen c.args.job.now in
    let grid = c.args.grid.now in
    let workers = reported c.args.workers.now in
    let inside = inside_of j.container j.capacity in
    let shared = is_shared j.container in
    let items = range_with_len 0 (length grid) in
    let cut = spans_of j.chunk (length grid) in
    let emits = linear_regression_emits grid in
    let result = c.line_text.result in
    let shape : is_regression_shape grid ≡ true = search rules in
    let sum : c.args.job.now.combiner ≡ combiner.Sum = search rules in
    of_shape j workers 1 (is_regression_shape grid) (number_spans j regression_text (length grid) emits) result shape
    (subst (λ x. IsOutputOf j (once nat_cmp decimal inside shared (folded x j.reducer) regression_text items cut emits) workers result)
    (sym sum)
    (once_output j workers result nat_cmp decimal inside shared sum_folded regression_text items cut emits c.line_text.ensures.ending
    c.line_text.ensures.of_inputs c.line_text.ensures.shares))
