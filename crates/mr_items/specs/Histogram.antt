-- The blue, green and red of each pixel. The items are the rows of pixels.
use Rattle.std.specs.Prelude.{ℕ, ◌+◌, ℤ, pos, List, [], ◌∷◌, flat_map, slice_index}
use Rattle.std.specs.List.{range_with_len}
use Rattle.mr_defs.specs.Emission.{Emission, Pair}
use Rattle.mr_items.specs.Bitmap.{pixel_offsets, pixel_rows}

-- what the pixel at an offset emits
abbrev pub pixel_emits : List ℕ → ℕ → List (Emission ℕ ℤ)
pixel_emits bytes offset =
    Pair (slice_index bytes offset) (pos 1)
    ∷ Pair (256 + slice_index bytes (offset + 1)) (pos 1)
    ∷ Pair (512 + slice_index bytes (offset + 2)) (pos 1)
    ∷ []

-- what a row of pixels emits; and what all rows do
abbrev pub histogram_emits : List ℕ → ℕ → List (Emission ℕ ℤ)
histogram_emits bytes row = flat_map (pixel_emits bytes) (pixel_offsets bytes row)

abbrev pub histogram_emissions : List ℕ → List (Emission ℕ ℤ)
histogram_emissions bytes = flat_map (histogram_emits bytes) (range_with_len 0 (pixel_rows bytes))
