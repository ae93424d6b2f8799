-- What a bitmap that was read says of its bytes.
use Rattle.std.proofs.Common.{◌≡◌, ℕ, ◌+◌, ◌*◌, ◌<◌, ◌≤◌, Bool, true, false, cond, List, [], ◌∷◌, length, Option, Some, None, Ok, Err, refl}
use Rattle.std.proofs.Common.{ap, arith}
use Rattle.std.proofs.Math.Nat.{mul-le-mul_right}
use Rattle.std.specs.Prelude.{find, option_map}
use Rattle.std.specs.List.{AllByRecursion}
use Rattle.std.specs.Option.{option_map_or}
use Rattle.std.proofs.lemmas.Bool.{ltb-false}
use Rattle.mr_items.specs.Bitmap.{bitmap_tests, bitmap_fault_of, place_of, pixels_in_row, pixel_rows, stride_of}
use Rattle.mr_items.specs.declared.BitmapFault.{BitmapFault}
use Rattle.mr_grid.specs.Pixels.{bitmap_of}
use Rattle.mr_grid.specs.declared.bitmap.Bitmap.{Bitmap}

-- where no test is found that holds, none does
none_holds : (tests : List (Bool × BitmapFault)) → option_map (λ t. t.1) (find (λ t. t.0) tests) ≡ None
    → AllByRecursion (λ t. t.0 ≡ false) tests
none_holds [] e = tt
none_holds (t ∷ ts) e = by t.0 refl e (λ k. none_holds ts k)
  where
    by : (b : Bool) → t.0 ≡ b → option_map (λ t. t.1) (cond b (Some t) (find (λ t. t.0) ts)) ≡ None
        → (option_map (λ t. t.1) (find (λ t. t.0) ts) ≡ None → AllByRecursion (λ t. t.0 ≡ false) ts)
        → (t.0 ≡ false) × AllByRecursion (λ t. t.0 ≡ false) ts
    by true is k rest = absurd (cc)
    by false is k rest = (is, rest k)

-- the fields are those of the definition, and the rows lie in the bytes
pub record IsBitmapOf (bytes : List ℕ) (b : Bitmap) : Type 0 where
  pub place : b.place ≡ place_of bytes
  pub width : b.width ≡ pixels_in_row bytes
  pub rows : b.rows ≡ pixel_rows bytes
  pub stride : b.stride ≡ stride_of bytes
  pub inside : place_of bytes + stride_of bytes * pixel_rows bytes ≤ length bytes
  pub wide : 3 * pixels_in_row bytes ≤ stride_of bytes

pub is_bitmap : (bytes : List ℕ) (b : Bitmap) → bitmap_of bytes ≡ Ok b → IsBitmapOf bytes b
is_bitmap bytes b e = by (bitmap_fault_of bytes) refl e
  where
    whole : Bitmap
    whole = record { place = place_of bytes; width = pixels_in_row bytes; rows = pixel_rows bytes; stride = stride_of bytes }

    by : (fault : Option BitmapFault) → bitmap_fault_of bytes ≡ fault → option_map_or Err fault (Ok whole) ≡ Ok b → IsBitmapOf bytes b
    by (Some f) is k = absurd (cc)
    by None is k =
        let same : b ≡ whole = cc in
        let none = none_holds (bitmap_tests bytes) is in
        record {
          place = ap (λ x. x.place) same;
          width = ap (λ x. x.width) same;
          rows = ap (λ x. x.rows) same;
          stride = ap (λ x. x.stride) same;
          inside = ltb-false (length bytes) (place_of bytes + stride_of bytes * pixel_rows bytes) (none.1.1.1.1.1.1.1.1.1.0);
          wide = omega arith;
        }

-- a row lies in the bytes, and its pixels in it
pub row_bytes : (bytes : List ℕ) (b : Bitmap) → IsBitmapOf bytes b → (row : ℕ) → row < pixel_rows bytes
    → b.place + row * b.stride + b.stride ≤ length bytes
row_bytes bytes b is row below =
    let last : (row + 1) * stride_of bytes ≤ pixel_rows bytes * stride_of bytes =
    mul-le-mul_right (stride_of bytes) (omega (arith, below)) in
    let turned : stride_of bytes * pixel_rows bytes ≡ pixel_rows bytes * stride_of bytes = omega arith in
    let more : (row + 1) * stride_of bytes ≡ row * stride_of bytes + stride_of bytes = omega arith in
    let here : row * b.stride ≡ row * stride_of bytes = ap (λ n. row * n) is.stride in
    omega (arith, last, turned, more, here, is.inside, is.place, is.stride)

pub row_wide : (bytes : List ℕ) (b : Bitmap) → IsBitmapOf bytes b → 3 * b.width ≤ b.stride
row_wide bytes b is = omega (arith, is.wide, is.width, is.stride)
