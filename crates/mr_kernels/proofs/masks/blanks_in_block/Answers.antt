use Rattle.std.proofs.Common.{take, drop}
use Rattle.std.proofs.lemmas.Simd.{length-chunk}
use Rattle.mr_kernels.proofs.Blocks.{blank_lanes}
use Rattle.mr_kernels.proofs.masks.blanks_in_block.Goals as goal

pub returns : goal.returns
returns c = blank_lanes (take 64 (drop c.args.at c.args.bytes.now)) (length-chunk c.args.at 64 c.args.bytes.now c.requires)
