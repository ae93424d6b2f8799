use Rattle.std.proofs.Common.{rules, ◌≡◌, ◌≤◌, ◌<◌, ◌+◌, ◌++◌, ◌∷◌, [], ℕ, ℤ, pos, nat_abs, List, length, get_or, take, subst, sym, ap}
use Rattle.std.proofs.Common.{◌∙◌, arith}
use Rattle.std.specs.List.{All}
use Rattle.std.specs.Int.{int_div_euclid, w128}
use Rattle.std.proofs.lemmas.List.{take_all, take_more, map-append}
use Rattle.std.proofs.lemmas.Int.{to_z-of_z}
use Rattle.mr_defs.specs.Emission.{Row}
use Rattle.mr_defs.specs.Limits.{greatest_element}
use Rattle.mr_items.specs.Pca.{column_means}
use Rattle.mr_numeric.proofs.Quotients.{means_small}
use Rattle.mr_numeric.proofs.means_of_columns.column_means.Goals as goal

one_mean_more : (rows : List (Row ℕ)) (points i : ℕ) (row : Row ℕ) (mean : ℤ) → i < length rows → get_or rows i row ≡ row
    → mean ≡ int_div_euclid (get_or row.1 0 (pos 0)) (pos points)
    → column_means (take i rows) points ++ mean ∷ [] ≡ column_means (take (i + 1) rows) points
one_mean_more rows points i row mean below is e =
    ap (λ z. column_means (take i rows) points ++ z ∷ []) e
    ∙ sym (map-append (λ (r : Row ℕ). int_div_euclid (get_or r.1 0 (pos 0)) (pos points)) (take i rows) (row ∷ []))
    ∙ ap (λ rs. column_means rs points) (sym (take_more rows i row below ∙ ap (λ r. take i rows ++ r ∷ []) is))

pub loop-row-preserved : goal.loop-row-preserved
loop-row-preserved c =
    let rows = c.args.rows.now in
    let here : get_or rows c.loop-row.row-index c.row-item.result
    ≡ c.row-item.result = ap (λ (rs : List (Row ℕ)). get_or rs c.loop-row.row-index c.row-item.result) (sym c.entries-row-items.ensures)
    ∙ sym c.row-item.is in
    c.in_ok-push.ensures.items
    ∙ ap (λ z. c.loop-row.means.items ++ z ∷ []) (to_z-of_z w128 c.column_mean.result (search rules))
    ∙ ap (λ xs. xs ++ c.column_mean.result ∷ []) c.loop-row.invariant
    ∙ one_mean_more rows c.args.points c.loop-row.row-index c.row-item.result c.column_mean.result
    (omega (arith, c.loop-row-test.true, ap length c.entries-row-items.ensures)) here c.column_mean.ensures

all_rows : (c : goal.After-loop-row) → c.loop-row.means.items ≡ column_means c.args.rows.now c.args.points
all_rows c = c.loop-row.invariant
    ∙ ap (λ rs. column_means rs c.args.points)
    (take_all c.loop-row.row-index c.args.rows.now
    (omega (arith, c.loop-row.auto.row-index-end, c.loop-row-test.false, ap length c.entries-row-items.ensures)))

pub returns-clause-means : goal.returns-clause-means
returns-clause-means c = all_rows c

pub returns-clause-small : goal.returns-clause-small
returns-clause-small c sums =
    subst (All (λ z. nat_abs z ≤ greatest_element)) (sym (all_rows c)) (means_small c.args.points c.args.rows.now sums)
