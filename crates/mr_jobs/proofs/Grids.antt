-- What a grid that was read is.
use Rattle.std.proofs.Common.{◌≡◌, ◌≤◌, ◌<◌, ◌*◌, ℕ, ℤ, nat_abs, List, [], length, get_or, sym, ap, subst, ◌∙◌, arith}
use Rattle.std.specs.Fork.{slice_chunk}
use Rattle.std.specs.List.{All}
use Rattle.std.proofs.lemmas.List.Elements.{All-from_get_or, All-take, All-drop}
use Rattle.std.proofs.lemmas.Option.{get_or_from_slice_get}
use Rattle.std.proofs.lemmas.Simd.{length-chunk}
use Rattle.mr_defs.specs.Limits.{greatest_element}
use Rattle.mr_grid.specs.Dense.{rows_of, IsDense}
use Rattle.mr_grid.proofs.Chunks.{length-rows_of, row_of, row_within, columns_is}
use Rattle.mr_items.specs.Grid.{columns_of}
use Rattle.mr_numeric.specs.Grids.{IsEven}

module _ (numbers : List ℤ) (columns rows : ℕ) (dense : IsDense numbers columns rows) where
  abbrev grid : List (List ℤ)
  grid = rows_of numbers columns rows

  row_at : (r : ℕ) → r < length grid → get_or grid r [] ≡ slice_chunk numbers columns r
  row_at r below = get_or_from_slice_get grid r (slice_chunk numbers columns r) []
      (row_of numbers columns rows r (omega (arith, below, length-rows_of numbers columns rows)))

  -- rows of one length, of bounded numbers
  pub dense_even : IsEven grid
  dense_even = record {
    even = All-from_get_or (λ row. length row ≡ columns_of grid) grid [] (λ r below.
        ap length (row_at r below)
        ∙ length-chunk (r * columns) columns numbers (row_within numbers columns rows r
        (omega (arith, below, length-rows_of numbers columns rows)) dense.size) ∙ sym (columns_is numbers columns rows dense));
    small = All-from_get_or (All (λ z. nat_abs z ≤ greatest_element)) grid [] (λ r below.
        subst (All (λ z. nat_abs z ≤ greatest_element)) (sym (row_at r below))
        (All-take (λ z. nat_abs z ≤ greatest_element) columns _
        (All-drop (λ z. nat_abs z ≤ greatest_element) (r * columns) numbers dense.bounded)));
  }

  -- without columns there is no row
  pub dense_full : columns_of grid ≡ 0 → length grid ≡ 0
  dense_full none = length-rows_of numbers columns rows ∙ dense.no_rows (sym (columns_is numbers columns rows dense) ∙ none)
