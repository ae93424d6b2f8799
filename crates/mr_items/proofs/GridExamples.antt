-- Grids and bitmaps that are written out.
use Rattle.std.proofs.Common.{refl, ◌≡◌, ℕ, pos, negsuc, codes, List, [], ◌∷◌, ◌++◌, take, Some, None}
use Rattle.std.specs.Prelude.{set, Ok, Err, flat_map, replicate}
use Rattle.mr_items.specs.Grid.{grid_of, grid_fault_of}
use Rattle.mr_items.specs.Bitmap.{bitmap_fault_of}
use Rattle.mr_items.specs.declared.GridFault.TheVariants as grid
use Rattle.mr_items.specs.declared.BitmapFault.TheVariants as bitmap
use Rattle.mr_items.proofs.OnePixel.{one_pixel}

good_bitmap : bitmap_fault_of one_pixel ≡ None
good_bitmap = refl

without_the_last_byte : bitmap_fault_of (take 57 one_pixel) ≡ Some bitmap.Pixels
without_the_last_byte = refl

no_byte : bitmap_fault_of (take 0 one_pixel) ≡ Some bitmap.Short
no_byte = refl

header_cut_short : bitmap_fault_of (take 53 one_pixel) ≡ Some bitmap.Short
header_cut_short = refl

no_pixel_byte : bitmap_fault_of (take 54 one_pixel) ≡ Some bitmap.Pixels
no_pixel_byte = refl

other_magic : bitmap_fault_of (set one_pixel 0 67) ≡ Some bitmap.Magic
other_magic = refl

shorter_header : bitmap_fault_of (set one_pixel 14 12) ≡ Some bitmap.Header
shorter_header = refl

two_planes : bitmap_fault_of (set one_pixel 26 2) ≡ Some bitmap.Planes
two_planes = refl

other_depth : bitmap_fault_of (set one_pixel 28 32) ≡ Some bitmap.Depth
other_depth = refl

compressed_pixels : bitmap_fault_of (set one_pixel 30 1) ≡ Some bitmap.Compressed
compressed_pixels = refl

no_width : bitmap_fault_of (set one_pixel 18 0) ≡ Some bitmap.Width
no_width = refl

no_height : bitmap_fault_of (set one_pixel 22 0) ≡ Some bitmap.Height
no_height = refl

place_in_the_header : bitmap_fault_of (set one_pixel 10 53) ≡ Some bitmap.Place
place_in_the_header = refl

place_past_the_end : bitmap_fault_of (set one_pixel 10 59) ≡ Some bitmap.Place
place_past_the_end = refl

pixels_past_the_end : bitmap_fault_of (set one_pixel 10 55) ≡ Some bitmap.Pixels
pixels_past_the_end = refl

top_row_first : bitmap_fault_of (set (set (set (set one_pixel 22 255) 23 255) 24 255) 25 255) ≡ None
top_row_first = refl

greatest_sides : bitmap_fault_of
    (set (set (set (set (set (set (set (set one_pixel 18 255) 19 255) 20 255) 21 127) 22 0) 23 0) 24 0) 25 128) ≡ Some bitmap.Pixels
greatest_sides = refl

ragged_line : grid_of (codes "1 2\n3\n") ≡ Err (grid.Ragged 4)
ragged_line = refl

stray_field : grid_of (codes "1 x\n") ≡ Err (grid.Number 2)
stray_field = refl

element_too_large : grid_of (codes "1 2\n1 2\n2147483648 1\n") ≡ Err (grid.Number 8)
element_too_large = refl

element_too_small : grid_of (codes "1 2\n1 2\n-2147483648 1\n") ≡ Err (grid.Number 8)
element_too_small = refl

good_grid : grid_of (codes "1 -2\n\n  3 4\n") ≡ Ok ((pos 1 ∷ negsuc 1 ∷ []) ∷ (pos 3 ∷ pos 4 ∷ []) ∷ [])
good_grid = refl

first_line_first : grid_of (codes "1 2\nx y z\n1\n") ≡ Err (grid.Ragged 4)
first_line_first = refl

abbrev grid_text : ℕ → List ℕ
grid_text n = flat_map (λ b. b ∷ 32 ∷ []) (replicate n 49) ++ 10 ∷ []

wide_line : grid_fault_of (grid_text 1025) ≡ Some (grid.Wide 0)
wide_line = refl
