use Rattle.std.proofs.Common.{◌≡◌, ◌≤◌, ◌<◌, ◌+◌, ◌-◌, ◌++◌, ◌∷◌, [], ℕ, ℤ, pos, nat_abs, List, length, get_or, map, take, subst}
use Rattle.std.proofs.Common.{sym, ap, ◌∙◌, arith, w64, to_z, of_z}
use Rattle.std.specs.Prelude.{flat_map}
use Rattle.std.specs.List.{enumerate_from, range_with_len}
use Rattle.std.proofs.lemmas.List.Concat.{flat_map_single}
use Rattle.std.proofs.lemmas.List.FromFn.{get_or-enumerate_from, length-enumerate_from}
use Rattle.std.proofs.lemmas.Option.{get_or_from_slice_get}
use Rattle.std.proofs.lemmas.Result.{err_from_is_err_and}
use Rattle.mr_defs.specs.Emission.{Emission, Pair}
use Rattle.mr_defs.specs.Folded.{limit}
use Rattle.mr_items.specs.Pca.{column_emits}
use Rattle.mr_split.proofs.Numbered.{flat_map-numbered}
use Rattle.mr_numeric.specs.Pairs.{pair_of}
use Rattle.mr_numeric.proofs.Emitted.{emitted, one_more, front}
use Rattle.mr_numeric.proofs.Products.{kept}
use Rattle.mr_numeric.proofs.columns.ColumnsItems.emit_item.Given.{Over}
use Rattle.mr_numeric.proofs.columns.ColumnsItems.emit_item.Goals.{After-row-row, After-element}
use Rattle.mr_numeric.proofs.columns.ColumnsItems.emit_item.Goals as goal

-- what the element at a place emits
abbrev at_column : List ℤ → ℕ → List (Emission ℕ ℤ)
at_column row j = pair_of (get_or (enumerate_from 0 row) j (0, pos 0))

element_emits : (row : List ℤ) (j : ℕ) (v : ℤ) → j < length row → v ≡ get_or row j (pos 0) → nat_abs v ≤ limit
    → Pair j (to_z w64 (of_z w64 v)) ∷ [] ≡ at_column row j
element_emits row j v below is small =
    let same : 0 + j ≡ j = omega arith in
    ap (λ z. Pair j z ∷ []) (kept v small ∙ is)
    ∙ ap pair_of (sym (get_or-enumerate_from 0 row j (0, pos 0) below ∙ ap (λ k. (k, get_or row j (pos 0))) same))

all_columns : (grid : List (List ℤ)) (i : ℕ) (row : List ℤ) → get_or grid i [] ≡ row
    → emitted (at_column row) 0 (length row) ≡ column_emits grid i
all_columns grid i row is =
    let all : length row - 0 ≡ length (enumerate_from 0 row) = omega (arith, length-enumerate_from 0 row) in
    ap (λ n. flat_map (at_column row) (range_with_len 0 n)) all
    ∙ flat_map-numbered pair_of (enumerate_from 0 row) (0, pos 0)
    ∙ flat_map_single (λ e. Pair e.0 e.1) (enumerate_from 0 row)
    ∙ ap (λ r. map (λ e. Pair e.0 e.1) (enumerate_from 0 r)) (sym is)

whole_row : (g : Over) (c : After-row-row g)
    → emitted (at_column c.row-row.result.now) 0 (length c.row-row.result.now) ≡ column_emits c.args.self.now.grid.now c.args.item
whole_row g c =
    let grid = c.args.self.now.grid.now in
    all_columns grid c.args.item c.row-row.result.now (get_or_from_slice_get grid c.args.item c.row-row.result.now [] c.row-row.ensures.row)

this_element : (g : Over) (c : After-element g)
    → Pair c.loop-j.j (to_z w64 (of_z w64 c.element.result)) ∷ [] ≡ at_column c.row-row.result.now c.loop-j.j
this_element g c =
    element_emits c.row-row.result.now c.loop-j.j c.element.result c.loop-j-test.true c.element.ensures.element c.element.ensures.small

pub returns-in_err-emit_pairs-clause-err : goal.returns-in_err-emit_pairs-clause-err
returns-in_err-emit_pairs-clause-err g c =
    let row = c.row-row.result.now in
    let j = c.loop-j.j in
    let P = g.L.Local.stands c.emit_pairs.new.out in
    let e = err_from_is_err_and c.from_residual.result c.from_residual.ensures.1 in
    rw e.1 (λ es h.
    let some = c.in_err-emit_pairs.ensures.err _ (c.loop-j.invariant.stands es h) in
    subst (λ l. (n : ℕ) × P (es ++ take n l)) (whole_row g (goal.at.returns-in_err-emit_pairs-clause-err g c).After-row-row)
    (front (at_column row) 0 P es j (length row) some.0 (omega arith) c.loop-j-test.true
    (subst (λ l. P ((es ++ emitted (at_column row) 0 j) ++ take some.0 l))
    (this_element g (goal.at.returns-in_err-emit_pairs-clause-err g c).After-element) some.1)))

pub loop-j-preserved : goal.loop-j-preserved
loop-j-preserved g c =
    let row = c.row-row.result.now in
    let j = c.loop-j.j in
    let P = g.L.Local.stands c.emit_pairs.new.out in
    record {
      stands = λ es h. one_more (at_column row) 0 P es j (omega arith)
          (subst (λ l. P ((es ++ emitted (at_column row) 0 j) ++ l)) (this_element g (goal.at.loop-j-preserved g c).After-element)
          (c.in_ok-emit_pairs.ensures.ok _ (c.loop-j.invariant.stands es h)));
      origin = g.met.L.Local.origin_trans _ _ _ c.loop-j.invariant.origin c.in_ok-emit_pairs.ensures.origin;
    }

pub returns-clause-ok : goal.returns-clause-ok
returns-clause-ok g c = λ es h.
    let row = c.row-row.result.now in
    let all : c.loop-j.j ≡ length row = omega (arith, c.loop-j.auto.j-end, c.loop-j-test.false) in
    subst (λ l. g.L.Local.stands c.loop-j.out (es ++ l))
    (ap (emitted (at_column row) 0) all ∙ whole_row g (goal.at.returns-clause-ok g c).After-row-row) (c.loop-j.invariant.stands es h)
