-- The rows of a pass over a grid.
use Rattle.std.proofs.Common.{◌≡◌, ◌≤◌, ◌∙◌, ℕ, ℤ, Bool, false, List, [], Ok, length, refl, sym, ap, subst}
use Rattle.std.specs.List.{All}
use Rattle.std.specs.Ordering.{nat_cmp}
use Rattle.std.proofs.lemmas.List.{length-map}
use Rattle.std.proofs.lemmas.List.Elements.{All-get_or, All-weaker}
use Rattle.std.specs.Prelude.{get_or, pos}
use Rattle.std.specs.Int.{int_div_euclid}
use Rattle.mr_defs.specs.Emission.{Row}
use Rattle.mr_defs.specs.Folded.{sum_folded}
use Rattle.mr_defs.specs.Limits.{input_limit}
use Rattle.mr_defs.specs.Rounds.{round_of}
use Rattle.mr_items.specs.Grid.{columns_of}
use Rattle.mr_items.specs.Pca.{column_emissions, column_means, spread_emissions}
use Rattle.mr_jobs.proofs.Passed.{passed_faults, passed_rows}
use Rattle.mr_numeric.proofs.ColumnRows.{are_column_sums, column_count}
use Rattle.mr_numeric.proofs.SumRows.{are_sums}
use Rattle.mr_numeric.specs.Grids.{IsEven}
use Rattle.mr_numeric.specs.Sums.{AreSums, IsColumnSum}

module _ (inside : ℕ → Bool) (grid : List (List ℤ)) (rows : List (Row ℕ)) where
  -- they are sums of as many elements as there are points
  pub column_sums : IsEven grid → round_of nat_cmp inside false sum_folded (column_emissions grid) ≡ Ok rows
      → All (IsColumnSum (length grid)) rows
  column_sums even passed =
      subst (All (IsColumnSum (length grid))) (passed_rows nat_cmp inside false sum_folded (column_emissions grid) rows passed)
      (are_column_sums inside grid even)

  pub column_ones : IsEven grid → round_of nat_cmp inside false sum_folded (column_emissions grid) ≡ Ok rows
      → All (λ row. length row.1 ≡ 1) rows
  column_ones even passed = All-weaker (IsColumnSum (length grid)) (λ row. length row.1 ≡ 1) (λ row s. s.one) rows (column_sums even passed)

  pub some_points : IsEven grid → round_of nat_cmp inside false sum_folded (column_emissions grid) ≡ Ok rows → 1 ≤ length rows
      → 1 ≤ length grid
  some_points even passed some = (All-get_or (IsColumnSum (length grid)) rows 0 (0, []) some (column_sums even passed)).some

  -- and give a mean for each column
  pub means_count : IsEven grid → length grid ≤ input_limit → round_of nat_cmp inside false sum_folded (column_emissions grid) ≡ Ok rows
      → length (column_means rows (length grid)) ≡ columns_of grid
  means_count even few passed =
      let es = column_emissions grid in
      length-map rows (λ row. int_div_euclid (get_or row.1 0 (pos 0)) (pos (length grid)))
      ∙ ap length (sym (passed_rows nat_cmp inside false sum_folded es rows passed))
      ∙ column_count inside grid even few (passed_faults nat_cmp inside false sum_folded es rows refl passed)

  pub product_sums : (means : List ℤ) → round_of nat_cmp inside false sum_folded (spread_emissions means grid) ≡ Ok rows → AreSums rows
  product_sums means passed =
      let es = spread_emissions means grid in
      subst AreSums (passed_rows nat_cmp inside false sum_folded es rows passed) (are_sums inside es)
