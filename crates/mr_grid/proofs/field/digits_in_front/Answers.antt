use Rattle.std.proofs.Common.{take, drop, ap}
use Rattle.std.specs.Int.Count.{count_trailing_zeros}
use Rattle.std.proofs.lemmas.Simd.{length-chunk}
use Rattle.mr_grid.proofs.Front.{others_of, front_is}
use Rattle.mr_grid.proofs.field.digits_in_front.Goals as goal

pub returns : goal.returns
returns c = front_is c.args.bytes.now c.args.at _ c.requires
    (ap (count_trailing_zeros 64)
    (others_of (take 16 (drop c.args.at c.args.bytes.now)) (length-chunk c.args.at 16 c.args.bytes.now c.requires)))
