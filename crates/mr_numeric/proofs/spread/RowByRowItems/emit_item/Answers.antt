use Rattle.std.proofs.Common.{◌≡◌, ◌+◌, ◌-◌, ◌*◌, ◌++◌, ◌∷◌, [], ℕ, ℤ, ◌*ℤ◌, List, length, get_or, map, take, subst, sym, ap, ap₂, ◌∙◌}
use Rattle.std.proofs.Common.{arith}
use Rattle.std.specs.Prelude.{flat_map}
use Rattle.std.specs.List.{range_with_len}
use Rattle.std.proofs.lemmas.List.Folds.{flat_map-map}
use Rattle.std.proofs.lemmas.Option.{get_or_from_slice_get}
use Rattle.std.proofs.lemmas.Result.{err_from_is_err_and}
use Rattle.mr_defs.specs.Emission.{Emission}
use Rattle.mr_items.specs.Grid.{columns_of}
use Rattle.mr_items.specs.MatrixProduct.{sum_emits}
use Rattle.mr_items.specs.Pca.{column_couples, deviation, spread_emits}
use Rattle.mr_numeric.specs.Pairs.{couple_emits}
use Rattle.mr_numeric.proofs.Emitted.{emitted, one_more, front, flat_map-flat_map}
use Rattle.mr_numeric.proofs.spread.RowByRowItems.emit_item.Given.{Over}
use Rattle.mr_numeric.proofs.spread.RowByRowItems.emit_item.Goals.{After-as_slice-means}
use Rattle.mr_numeric.proofs.spread.RowByRowItems.emit_item.Goals as goal

-- what the pairs of a column with itself and each later one emit
abbrev column_emits : List ℤ → List ℤ → ℕ → List (Emission ℕ ℤ)
column_emits means row i = flat_map (couple_emits means row i) (range_with_len i (length row - i))

-- what a pair of columns emits, of so many columns
abbrev pair_emits : List ℤ → List ℤ → ℕ → ℕ × ℕ → List (Emission ℕ ℤ)
pair_emits means row c p = sum_emits (p.0 * c + p.1) ((deviation means row p.0 *ℤ deviation means row p.1) ∷ [])

all_pairs : (means : List ℤ) (grid : List (List ℤ)) (i : ℕ) (row : List ℤ) → get_or grid i [] ≡ row → length row ≡ columns_of grid
    → emitted (column_emits means row) 0 (length row) ≡ spread_emits means grid i
all_pairs means grid i row is size =
    let all : length row - 0 ≡ length row = omega arith in
    ap (λ n. flat_map (column_emits means row) (range_with_len 0 n)) all
    ∙ (λ k. flat_map (λ i. sym (flat_map-map (pair_emits means row (length row)) (λ j. (i, j)) (range_with_len i (length row - i))) k)
    (range_with_len 0 (length row)))
    ∙ sym (flat_map-flat_map (pair_emits means row (length row)) (λ i. map (λ j. (i, j)) (range_with_len i (length row - i)))
    (range_with_len 0 (length row)))
    ∙ ap₂ (λ r c. flat_map (pair_emits means r c) (column_couples c)) (sym is) size

whole_row : (g : Over) (c : After-as_slice-means g)
    → emitted (column_emits c.as_slice-means.result.now c.row-row.result.now) 0 (length c.row-row.result.now)
    ≡ spread_emits c.args.self.now.means.now c.args.self.now.grid.now c.args.item
whole_row g c =
    let grid = c.args.self.now.grid.now in
    let row = c.row-row.result.now in
    all_pairs c.as_slice-means.result.now grid c.args.item row
    (get_or_from_slice_get grid c.args.item row [] c.row-row.ensures.row) c.row-row.ensures.length
    ∙ ap (λ means. spread_emits means grid c.args.item) c.as_slice-means.ensures

pub returns-in_err-emit_couples-clause-err : goal.returns-in_err-emit_couples-clause-err
returns-in_err-emit_couples-clause-err g c =
    let emits = column_emits c.as_slice-means.result.now c.row-row.result.now in
    let P = g.L.Local.stands c.emit_couples.new.out in
    let e = err_from_is_err_and c.from_residual.result c.from_residual.ensures.1 in
    rw e.1 (λ es h.
    let some = c.in_err-emit_couples.ensures.err _ (c.loop-i.invariant.stands es h) in
    subst (λ l. (n : ℕ) × P (es ++ take n l)) (whole_row g (goal.at.returns-in_err-emit_couples-clause-err g c).After-as_slice-means)
    (front emits 0 P es c.loop-i.i (length c.row-row.result.now) some.0 (omega arith) c.loop-i-test.true some.1))

pub loop-i-preserved : goal.loop-i-preserved
loop-i-preserved g c =
    let emits = column_emits c.as_slice-means.result.now c.row-row.result.now in
    record {
      stands = λ es h. one_more emits 0 (g.L.Local.stands c.emit_couples.new.out) es c.loop-i.i (omega arith)
          (c.in_ok-emit_couples.ensures.ok _ (c.loop-i.invariant.stands es h));
      origin = g.met.L.Local.origin_trans _ _ _ c.loop-i.invariant.origin c.in_ok-emit_couples.ensures.origin;
    }

pub returns-clause-ok : goal.returns-clause-ok
returns-clause-ok g c = λ es h.
    let row = c.row-row.result.now in
    let all : c.loop-i.i ≡ length row = omega (arith, c.loop-i.auto.i-end, c.loop-i-test.false) in
    subst (λ l. g.L.Local.stands c.loop-i.out (es ++ l))
    (ap (emitted (column_emits c.as_slice-means.result.now row) 0) all ∙ whole_row g (goal.at.returns-clause-ok g c).After-as_slice-means)
    (c.loop-i.invariant.stands es h)
