use Rattle.std.proofs.Common.{rules, ◌≡◌, ◌<◌, ◌+◌, ◌-◌, ◌*◌, ◌++◌, ℕ, List, take, subst, sym, ap, ap₂, arith, ◌∙◌}
use Rattle.std.specs.Prelude.{flat_map}
use Rattle.std.specs.List.{range_with_len}
use Rattle.std.proofs.lemmas.Result.{err_from_is_err_and}
use Rattle.std.proofs.lemmas.List.Folds.{flat_map-map}
use Rattle.mr_items.specs.Bitmap.{pixels_in_row, place_of, stride_of}
use Rattle.mr_items.specs.Histogram.{pixel_emits, histogram_emits}
use Rattle.mr_grid.specs.declared.bitmap.Bitmap.{Bitmap}
use Rattle.mr_numeric.proofs.Emitted.{emitted, one_more, front}
use Rattle.mr_numeric.proofs.Pixels.{IsBitmapOf, is_bitmap, row_bytes, row_wide}
use Rattle.mr_numeric.proofs.histogram.PixelRowsItems.emit_item.Goals as goal

-- all pixels of a row
all_pixels : (bytes : List ℕ) (b : Bitmap) → IsBitmapOf bytes b → (row : ℕ)
    → emitted (λ x. pixel_emits bytes (b.place + row * b.stride + 3 * x)) 0 b.width ≡ histogram_emits bytes row
all_pixels bytes b is row =
    let all : b.width - 0 ≡ pixels_in_row bytes = omega (arith, is.width) in
    ap₂ (λ place stride. emitted (λ x. pixel_emits bytes (place + row * stride + 3 * x)) 0 b.width) is.place is.stride
    ∙ ap (λ n. flat_map (λ x. pixel_emits bytes (place_of bytes + row * stride_of bytes + 3 * x)) (range_with_len 0 n)) all
    ∙ sym (flat_map-map (pixel_emits bytes) (λ x. place_of bytes + row * stride_of bytes + 3 * x) (range_with_len 0 (pixels_in_row bytes)))

pub overflow_mul-start : goal.overflow_mul-start
overflow_mul-start g c =
    let is = is_bitmap c.args.self.now.input.now c.args.self.now.bitmap c.args.self.now.are in
    let small : c.args.item * c.args.self.now.bitmap.stride < 18446744073709551616 =
    omega (arith, row_bytes c.args.self.now.input.now c.args.self.now.bitmap is c.args.item c.requires) in
    search (rules, small)

pub overflow_add-start : goal.overflow_add-start
overflow_add-start g c =
    let is = is_bitmap c.args.self.now.input.now c.args.self.now.bitmap c.args.self.now.are in
    let small : c.args.self.now.bitmap.place + c.args.item * c.args.self.now.bitmap.stride < 18446744073709551616 =
    omega (arith, row_bytes c.args.self.now.input.now c.args.self.now.bitmap is c.args.item c.requires) in
    search (rules, small)

pub overflow_add-start-in-loop-x : goal.overflow_add-start-in-loop-x
overflow_add-start-in-loop-x g c =
    let b = c.args.self.now.bitmap in
    let is = is_bitmap c.args.self.now.input.now b c.args.self.now.are in
    let small : b.place + c.args.item * b.stride + 3 * c.loop-x.x
    < 18446744073709551616 = omega
    (arith, row_bytes c.args.self.now.input.now b is c.args.item c.requires, row_wide c.args.self.now.input.now b is, c.loop-x-test.true) in
    search (rules, small)

pub emit_pixel-requires : goal.emit_pixel-requires
emit_pixel-requires g c =
    let b = c.args.self.now.bitmap in
    let is = is_bitmap c.args.self.now.input.now b c.args.self.now.are in
    omega (
      arith,
      row_bytes c.args.self.now.input.now b is c.args.item c.requires,
      row_wide c.args.self.now.input.now b is,
      c.loop-x-test.true,
    )

pub returns-in_err-emit_pixel-clause-err : goal.returns-in_err-emit_pixel-clause-err
returns-in_err-emit_pixel-clause-err g c =
    let bytes = c.args.self.now.input.now in
    let b = c.args.self.now.bitmap in
    let e = err_from_is_err_and c.from_residual.result c.from_residual.ensures.1 in
    rw e.1 (λ es h.
    let some = c.in_err-emit_pixel.ensures.err _ (c.loop-x.invariant.stands es h) in
    subst (λ l. (n : ℕ) × g.L.Local.stands c.emit_pixel.new.out (es ++ take n l))
    (all_pixels bytes b (is_bitmap bytes b c.args.self.now.are) c.args.item)
    (front (λ x. pixel_emits bytes (b.place + c.args.item * b.stride + 3 * x)) 0
    (g.L.Local.stands c.emit_pixel.new.out) es c.loop-x.x b.width some.0 (omega arith) c.loop-x-test.true some.1))

pub returns-in_err-emit_pixel-clause-origin : goal.returns-in_err-emit_pixel-clause-origin
returns-in_err-emit_pixel-clause-origin g c = g.met.L.Local.origin_trans _ _ _ c.loop-x.invariant.origin c.in_err-emit_pixel.ensures.origin

pub loop-x-preserved : goal.loop-x-preserved
loop-x-preserved g c =
    let b = c.args.self.now.bitmap in
    record {
      stands = λ es h. one_more (λ x. pixel_emits c.args.self.now.input.now (b.place + c.args.item * b.stride + 3 * x)) 0
          (g.L.Local.stands c.emit_pixel.new.out) es c.loop-x.x (omega arith)
          (c.in_ok-emit_pixel.ensures.ok _ (c.loop-x.invariant.stands es h));
      origin = g.met.L.Local.origin_trans _ _ _ c.loop-x.invariant.origin c.in_ok-emit_pixel.ensures.origin;
    }

pub returns-clause-ok : goal.returns-clause-ok
returns-clause-ok g c = λ es h.
    let bytes = c.args.self.now.input.now in
    let b = c.args.self.now.bitmap in
    let all : c.loop-x.x ≡ b.width = omega (arith, c.loop-x.auto.x-end, c.loop-x-test.false) in
    subst (λ l. g.L.Local.stands c.loop-x.out (es ++ l))
    (ap (emitted (λ x. pixel_emits bytes (b.place + c.args.item * b.stride + 3 * x)) 0) all
    ∙ all_pixels bytes b (is_bitmap bytes b c.args.self.now.are) c.args.item)
    (c.loop-x.invariant.stands es h)
