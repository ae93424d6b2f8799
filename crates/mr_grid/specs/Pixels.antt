-- Where the pixels of a bitmap stand, and the first of some tests that holds.
use Rattle.std.specs.Prelude.{ℕ, Bool, List, take, drop, find, Option, option_map, Result, Ok, Err}
use Rattle.std.specs.Option.{option_map_or}
use Rattle.mr_items.specs.Bitmap.{bitmap_tests, bitmap_fault_of, place_of, pixels_in_row, pixel_rows, stride_of}
use Rattle.mr_items.specs.declared.BitmapFault.{BitmapFault}
use Rattle.mr_grid.specs.declared.bitmap.Bitmap.{Bitmap}

abbrev pub first_fault : List (Bool × BitmapFault) → Option BitmapFault
first_fault tests = option_map (λ t. t.1) (find (λ t. t.0) tests)

-- the tests of a bitmap's format, which come before those of its pixels
abbrev pub format_tests : List ℕ → List (Bool × BitmapFault)
format_tests bytes = take 6 (bitmap_tests bytes)

abbrev pub pixel_tests : List ℕ → List (Bool × BitmapFault)
pixel_tests bytes = drop 6 (bitmap_tests bytes)

-- the pixels of these bytes, unless there is a fault
abbrev pub bitmap_unless : Option BitmapFault → List ℕ → Result Bitmap BitmapFault
bitmap_unless fault bytes = option_map_or Err fault
    (Ok (record { place = place_of bytes; width = pixels_in_row bytes; rows = pixel_rows bytes; stride = stride_of bytes }))

abbrev pub bitmap_of : List ℕ → Result Bitmap BitmapFault
bitmap_of bytes = bitmap_unless (bitmap_fault_of bytes) bytes
