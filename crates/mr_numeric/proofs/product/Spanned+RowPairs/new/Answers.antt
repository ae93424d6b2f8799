use Rattle.std.proofs.Common.{inl, inr, ◌≡◌, ◌<◌, ◌*◌, ◌/◌, ◌%◌, ℕ, ℤ, [], List, length, get_or, ap, ap₂, ◌∙◌, arith}
use Rattle.std.specs.Prelude.{flat_map}
use Rattle.std.specs.List.{range_with_len}
use Rattle.std.proofs.Math.Nat.{mod-lt}
use Rattle.std.proofs.lemmas.Bool.{cases_lt}
use Rattle.std.proofs.lemmas.List.FromFn.{get_or-map-range_with_len, length-map-range_with_len}
use Rattle.mr_defs.specs.Tasks.{task_emissions}
use Rattle.mr_items.specs.Grid.{column, columns_of}
use Rattle.mr_items.specs.MatrixProduct.{products, sum_emits, matrix_product_emits}
use Rattle.mr_grid.specs.Dense.{turned_of}
use Rattle.mr_numeric.specs.Pairs.{row_pair_emits}
use Rattle.mr_numeric.proofs.Same.{items-same, task-same}
use Rattle.mr_numeric.proofs.product.Spanned+RowPairs.new.Goals as goal

module _ (left right turned : List (List ℤ)) (is : turned ≡ turned_of right) where
  width : length turned ≡ columns_of right
  width = ap length is ∙ length-map-range_with_len (column right) 0 (columns_of right)

  -- a row of the turned grid is a column of the grid
  pair_same : (k : ℕ) → k < length left * length turned → row_pair_emits left turned k ≡ matrix_product_emits left right k
  pair_same k below =
      let some : 0 < columns_of
      right = elim (cases_lt 0
      (columns_of right)) [ inl more ↦ more | inr nothing ↦ absurd (omega (arith, below, none (omega (arith, nothing)))) ] in
      ap₂ (λ n ys. sum_emits k (products (get_or left (k / n) []) ys)) width
      (ap₂ (λ rows n. get_or rows (k % n) []) is width
      ∙ get_or-map-range_with_len (column right) 0 (columns_of right) (k % columns_of right) (k % columns_of right) [] (mod-lt k some)
      (omega arith))
    where
      none : columns_of right ≡ 0 → length left * length turned ≡ 0
      none e = ap (λ n. length left * n) (width ∙ e) ∙ omega arith

pub returns-clause-tasks : goal.returns-clause-tasks
returns-clause-tasks c = λ right t is.
    let left = c.args.left.now in
    let turned = c.args.right_turned.now in
    c.over.ensures.tasks t
    ∙ task-same (row_pair_emits left turned) (matrix_product_emits left right) (length left * length turned)
    (pair_same left right turned is) (get_or c.args.spans t (0, 0))
    ∙ ap (λ n. task_emissions (matrix_product_emits left right) (range_with_len 0 (length left * n)) (get_or c.args.spans t (0, 0)))
    (width left right turned is)

pub returns-clause-whole : goal.returns-clause-whole
returns-clause-whole c = λ right is.
    let left = c.args.left.now in
    let turned = c.args.right_turned.now in
    c.over.ensures.whole
    ∙ items-same (row_pair_emits left turned) (matrix_product_emits left right) (length left * length turned)
    (pair_same left right turned is)
    ∙ ap (λ n. flat_map (matrix_product_emits left right) (range_with_len 0 (length left * n))) (width left right turned is)
