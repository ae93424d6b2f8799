use Rattle.std.proofs.Common.{◌==◌, take, drop, w8, lit≤}
use Rattle.std.proofs.lemmas.Simd.{bitmask_splat, length-chunk}
use Rattle.mr_kernels.proofs.masks.line_ends_in_block.Goals as goal

pub returns : goal.returns
returns c = bitmask_splat w8 (λ x y. x == y) (take 64 (drop c.args.at c.args.bytes.now)) 64 10
    (length-chunk c.args.at 64 c.args.bytes.now c.requires) (lit≤ tt)
