use Rattle.std.proofs.Common.{◌≡◌, ◌≤◌, ◌∙◌, ℕ, ℤ, List, false, flat_map, length, Ok, ap, subst, sym}
use Rattle.std.specs.List.{All, range_with_len}
use Rattle.std.specs.Ordering.{nat_cmp}
use Rattle.mr_defs.specs.Folded.{sum_folded}
use Rattle.mr_defs.specs.Rounds.{round_of}
use Rattle.mr_defs.specs.Emission.{Emission}
use Rattle.mr_items.specs.Pca.{PcaState, column_means}
use Rattle.mr_jobs.specs.Jobs.{pca_emits}
use Rattle.mr_jobs.proofs.PassRows.{column_ones, column_sums, means_count, product_sums, some_points}
use Rattle.mr_jobs.specs.Passes.{pass_of}
use Rattle.mr_numeric.specs.Sums.{IsColumnSum}
use Rattle.mr_jobs.proofs.pca.ColumnsRounds.sequel.Goals as goal

-- what all rows emit in a pass
abbrev passed_emissions : List (List ℤ) → PcaState → List (Emission ℕ ℤ)
passed_emissions grid s = flat_map (pca_emits grid s) (range_with_len 0 (length grid))

pub pca_text-requires-clause-sums : goal.pca_text-requires-clause-sums
pca_text-requires-clause-sums c =
    let rows = c.requires.rows in
    let grid = c.args.self.now.grid.now in
    product_sums rows.0 grid c.args.rows.now _
    (subst (λ s. round_of nat_cmp rows.0 false sum_folded (passed_emissions grid s) ≡ Ok c.args.rows.now)
    (sym c.state.view_is ∙ ap pass_of c.in-Some.is) rows.1)

pub column_means-requires-clause-one : goal.column_means-requires-clause-one
column_means-requires-clause-one c =
    let rows = c.requires.rows in
    let grid = c.args.self.now.grid.now in
    column_ones rows.0 grid c.args.rows.now c.args.self.now.even
    (subst (λ s. round_of nat_cmp rows.0 false sum_folded (passed_emissions grid s) ≡ Ok c.args.rows.now)
    (sym c.state.view_is ∙ ap pass_of c.in-None.is) rows.1)

pub column_means-requires-clause-some : goal.column_means-requires-clause-some
column_means-requires-clause-some c = λ some.
    let rows = c.requires.rows in
    let grid = c.args.self.now.grid.now in
    subst (λ n. 1 ≤ n) (sym c.rows-points.ensures)
    (some_points rows.0 grid c.args.rows.now c.args.self.now.even
    (subst (λ s. round_of nat_cmp rows.0 false sum_folded (passed_emissions grid s) ≡ Ok c.args.rows.now)
    (sym c.state.view_is ∙ ap pass_of c.in-None.is) rows.1) some)

pub returns-in_ok-column_means-in-None-clause-fits : goal.returns-in_ok-column_means-in-None-clause-fits
returns-in_ok-column_means-in-None-clause-fits c =
    let rows = c.requires.rows in
    let self = c.args.self.now in
    let grid = self.grid.now in
    let means = c.in_ok-column_means-in-None in (
      ap length (means.ensures.means ∙ ap (column_means c.args.rows.now) c.rows-points.ensures)
          ∙ means_count rows.0 grid c.args.rows.now self.even self.few
          (subst (λ s. round_of nat_cmp rows.0 false sum_folded (passed_emissions grid s) ≡ Ok c.args.rows.now)
          (sym c.state.view_is ∙ ap pass_of c.in-None.is) rows.1),
      means.ensures.small (subst (λ n. All (IsColumnSum n) c.args.rows.now) (sym c.rows-points.ensures)
          (column_sums rows.0 grid c.args.rows.now self.even
          (subst (λ s. round_of nat_cmp rows.0 false sum_folded (passed_emissions grid s) ≡ Ok c.args.rows.now)
          (sym c.state.view_is ∙ ap pass_of c.in-None.is) rows.1))),
    )
