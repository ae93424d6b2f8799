use Rattle.std.proofs.Common.{◌≡◌, ◌-◌, ◌++◌, length, IsPermutation, subst, sym, ap, ◌∙◌, arith}
use Rattle.std.specs.Prelude.{IfSome, flat_map}
use Rattle.std.specs.List.{All, range_with_len}
use Rattle.std.proofs.lemmas.List.Sorted.{IsPermutation-append_right}
use Rattle.std.proofs.lemmas.Result.{on_ok_weaker}
use Rattle.mr_items.specs.Pca.{spread_emits}
use Rattle.mr_numeric.specs.Blocks.{AreMild, block_of, column_runs}
use Rattle.mr_numeric.proofs.Blocks.{block_long, block_turned}
use Rattle.mr_numeric.proofs.spread.Deviations.emit_block.Given.{Over}
use Rattle.mr_numeric.proofs.spread.Deviations.emit_block.Goals.{In-Some}
use Rattle.mr_numeric.proofs.spread.Deviations.emit_block.Goals as goal

-- the columns of the block
columns_are : (g : Over) (c : In-Some g)
    → c.in-Some.columns.items ≡ block_of c.args.self.now.rows.means.now c.args.self.now.rows.grid.now c.args.from (c.args.to - c.args.from)
columns_are g c =
    let rows = c.args.self.now.rows in
    let count = c.args.to - c.args.from in
    subst (λ o. IfSome o (λ columns. columns.items ≡ block_of c.as_slice.result.now rows.grid.now c.args.from count)) c.in-Some.is
    c.in_ok-columns.ensures.columns
    ∙ ap (λ m. block_of m rows.grid.now c.args.from count) c.as_slice.ensures

columns_mild : (g : Over) (c : In-Some g) → All AreMild c.in-Some.columns.items
columns_mild g c = subst (λ o. IfSome o (λ columns. All AreMild columns.items)) c.in-Some.is c.in_ok-columns.ensures.mild

pub emit_columns-requires-clause-mild : goal.emit_columns-requires-clause-mild
emit_columns-requires-clause-mild g c =
    subst (All AreMild) (sym c.deref.ensures.value) (columns_mild g (goal.at.emit_columns-requires-clause-mild g c).In-Some)

pub emit_columns-requires-clause-narrow : goal.emit_columns-requires-clause-narrow
emit_columns-requires-clause-narrow g c =
    let rows = c.args.self.now.rows in
    let long = block_long rows.means.now rows.grid.now c.args.from (c.args.to - c.args.from) in
    omega (
      arith,
      ap length c.deref.ensures.value,
      ap length (columns_are g (goal.at.emit_columns-requires-clause-narrow g c).In-Some),
      long,
      rows.each,
      rows.narrow,
    )

pub returns-in-Some-clause-ok : goal.returns-in-Some-clause-ok
returns-in-Some-clause-ok g c =
    let rows = c.args.self.now.rows in
    let means = rows.means.now in
    let grid = rows.grid.now in
    let count = c.args.to - c.args.from in
    let at = (goal.at.returns-in-Some-clause-ok g c).In-Some in
    let is = c.deref.ensures.value ∙ columns_are g at in
    let mild : All AreMild (block_of means grid c.args.from count) = subst (All AreMild) (columns_are g at) (columns_mild g at) in
    let rowwise = flat_map (spread_emits means grid) (range_with_len c.args.from count) in
    let columns = c.deref.result.now in
    let columnwise = flat_map (column_runs columns) (range_with_len 0 (length columns)) in
    let turned : IsPermutation columnwise rowwise =
    subst (λ l. IsPermutation (flat_map (column_runs l) (range_with_len 0 (length l))) rowwise)
    (sym is) (block_turned means grid c.args.from count rows.each mild) in
    on_ok_weaker c.emit_columns.result
    (λ ok es h. g.met.L.Local.any_order c.emit_columns.new.out (es ++ columnwise) (es ++ rowwise)
    (IsPermutation-append_right es columnwise rowwise turned) (ok es h)) c.emit_columns.ensures.ok
