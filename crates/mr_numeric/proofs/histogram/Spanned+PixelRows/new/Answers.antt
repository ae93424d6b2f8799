use Rattle.std.proofs.Common.{subst}
use Rattle.mr_split.specs.Pieces.{AreSpans}
use Rattle.mr_numeric.proofs.Pixels.{is_bitmap}
use Rattle.mr_numeric.proofs.histogram.Spanned+PixelRows.new.Goals as goal

pub over-requires : goal.over-requires
over-requires c = subst (λ n. AreSpans n c.args.spans) (is_bitmap c.args.input.now c.args.bitmap c.requires.bitmap).rows c.requires.spans
