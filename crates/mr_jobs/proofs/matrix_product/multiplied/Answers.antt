use Rattle.std.proofs.Common.{◌≡◌, ◌≤◌, ◌*◌, ℤ, List, length, ap, sym, subst, ◌∙◌, arith}
use Rattle.std.specs.Prelude.{decimal}
use Rattle.mr_defs.specs.Limits.{input_limit}
use Rattle.mr_defs.specs.Tasks.{spans_of}
use Rattle.mr_items.specs.Grid.{columns_of}
use Rattle.mr_items.specs.MatrixProduct.{matrix_product_emits}
use Rattle.mr_items.specs.Texts.{rows_text}
use Rattle.mr_jobfile.specs.Seen.{seen}
use Rattle.mr_grid.specs.Dense.{turned_of}
use Rattle.mr_split.specs.Pieces.{AreSpans}
use Rattle.mr_jobs.specs.Reported.{reported}
use Rattle.mr_jobs.proofs.Factors.{alike, few_elements, rows_of_turned}
use Rattle.mr_jobs.proofs.Outputs.{spans_output}
use Rattle.mr_jobs.proofs.matrix_product.multiplied.Goals as goal

-- the turned grid has as many rows as the right one has columns
turned_rows : (left right turned : List (List ℤ)) → turned ≡ turned_of right → length left * columns_of right ≡ length left * length turned
turned_rows left right turned e = ap (λ n. length left * n) (sym (ap length e ∙ rows_of_turned right))

pub new-mapper-requires-clause-alike : goal.new-mapper-requires-clause-alike
new-mapper-requires-clause-alike g c = alike c.args.left.now c.args.right.now c.requires.shape c.requires.full
    ∙ sym (ap columns_of c.in_ok-turned.ensures)

pub new-mapper-requires-clause-few : goal.new-mapper-requires-clause-few
new-mapper-requires-clause-few g c =
    subst (λ n. n ≤ input_limit) (turned_rows c.args.left.now c.args.right.now c.in_ok-turned.turned c.in_ok-turned.ensures)
    (omega (arith, few_elements c.args.left.now c.args.right.now c.requires.shape))

pub new-mapper-requires-clause-spans : goal.new-mapper-requires-clause-spans
new-mapper-requires-clause-spans g c =
    subst (λ n. AreSpans n c.spans-spans.result) (c.elements.ensures.count
    ∙ turned_rows c.args.left.now c.args.right.now c.in_ok-turned.turned c.in_ok-turned.ensures) c.spans-spans.ensures.of_items

pub returns : goal.returns
returns g c =
    let job = c.args.job.now in
    let left = c.args.left.now in
    let right = c.args.right.now in
    spans_output (seen job) (reported c.args.workers.now) c.rows_output.result (rows_text decimal) (length left * columns_of right)
    (matrix_product_emits left right) _ _ c.product_rows.result _
    (c.spans-spans.ensures.exact ∙ ap (spans_of job.chunk) c.elements.ensures.count)
    c.new-mapper.ensures.count (λ t. c.new-mapper.ensures.tasks right t c.in_ok-turned.ensures)
    (c.new-mapper.ensures.whole right c.in_ok-turned.ensures) c.product_rows.ensures c.rows_output.ensures
