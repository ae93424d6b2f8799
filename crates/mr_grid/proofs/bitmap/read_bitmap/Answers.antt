use Rattle.std.proofs.Common.{sym, ap, ◌∙◌}
use Rattle.mr_grid.specs.Pixels.{bitmap_unless, format_tests, pixel_tests}
use Rattle.mr_grid.proofs.Earliest.{first_fault-none, first_fault-some}
use Rattle.mr_grid.proofs.bitmap.read_bitmap.Goals as goal

pub returns-in-Some-clause-bitmap : goal.returns-in-Some-clause-bitmap
returns-in-Some-clause-bitmap c =
    let bytes = c.args.bytes.now in
    ap (λ fault. bitmap_unless fault bytes)
    (sym (first_fault-some (format_tests bytes) (pixel_tests bytes) c.in-Some.fault (sym c.format_fault.ensures.first ∙ c.in-Some.is)))

pub returns-in-None-clause-bitmap : goal.returns-in-None-clause-bitmap
returns-in-None-clause-bitmap c =
    let bytes = c.args.bytes.now in
    c.read_pixels.ensures.pixels
    ∙ ap (λ fault. bitmap_unless fault bytes)
    (sym (first_fault-none (format_tests bytes) (pixel_tests bytes) (sym c.format_fault.ensures.first ∙ c.in-None.is)))
