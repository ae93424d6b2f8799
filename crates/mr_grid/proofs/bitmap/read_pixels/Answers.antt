use Rattle.std.proofs.Common.{rules, pos, length, ◌≡◌, ◌≤ℤ◌, ◌≤◌, ◌<◌, ◌+◌, ◌*◌, ℕ, ℤ, nat_abs, ap, arith, w32, to_z, of_z}
use Rattle.std.specs.Int.RustNames.{FitsSigned}
use Rattle.std.specs.Int.Signed.{nat_abs-le}
use Rattle.std.proofs.lemmas.Int.{ints, to_z-of_z}
use Rattle.std.proofs.lemmas.Nat.{mul-le}
use Rattle.std.proofs.Math.Nat.{mul-le-mul_right}
use Rattle.mr_grid.proofs.bitmap.read_pixels.Goals as goal

-- the bytes of all rows are few enough
pixel_bytes : (width : ℤ) (stride rows : ℕ) → FitsSigned w32 width → stride < 3 * nat_abs (to_z w32 (of_z w32 width)) + 4
    → rows ≤ 2147483648 → stride * rows ≤ 6442450947 * 2147483648
pixel_bytes width stride rows fits h few =
    let long : stride ≤ 6442450947 = omega (arith, h, ap nat_abs (to_z-of_z w32 width fits), nat_abs-le width fits.sfits) in
    mul-le stride rows 6442450947 2147483648 long few

pub overflow_mul-stride : goal.overflow_mul-stride
overflow_mul-stride c =
    let bytes = pixel_bytes c.i32_at-width.result c.next_multiple_of-stride.result c.unsigned_abs-rows.result
    (search rules) c.next_multiple_of-stride.ensures.upper_bound c.unsigned_abs-rows.ensures.bound in
    let small : c.next_multiple_of-stride.result * c.unsigned_abs-rows.result < 18446744073709551616 = omega (arith, bytes) in
    search (rules, small)

pub overflow_add-place : goal.overflow_add-place
overflow_add-place c =
    let bytes = pixel_bytes c.i32_at-width.result c.next_multiple_of-stride.result c.unsigned_abs-rows.result
    (search rules) c.next_multiple_of-stride.ensures.upper_bound c.unsigned_abs-rows.ensures.bound in
    let small : c.u32_at-place.result + c.next_multiple_of-stride.result * c.unsigned_abs-rows.result < 18446744073709551616 =
    omega (arith, bytes) in
    search (rules, small)

-- as many rows as bytes at most, since each has a byte
row_bytes : (width : ℤ) (stride rows place len : ℕ) → FitsSigned w32 width → pos 1 ≤ℤ width
    → 3 * nat_abs (to_z w32 (of_z w32 width)) ≤ stride → place + stride * rows ≤ len → rows ≤ len
row_bytes width stride rows place len fits some wide inside =
    let size : nat_abs (to_z w32 (of_z w32 width)) ≡ nat_abs width = ap nat_abs (to_z-of_z w32 width fits) in
    let wide_enough : 1 ≤ nat_abs width = grind (arith, ints) in
    let each : 1 * rows ≤ stride * rows = mul-le-mul_right rows (omega (arith, wide, size, wide_enough)) in
    omega (arith, each, inside)

pub returns-clause-few : goal.returns-clause-few
returns-clause-few c =
    row_bytes c.i32_at-width.result c.next_multiple_of-stride.result c.unsigned_abs-rows.result c.u32_at-place.result
    (length c.args.bytes.now) (search rules) (search rules) c.next_multiple_of-stride.ensures.lower_bound c.if-place-stride.false
