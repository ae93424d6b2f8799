use Rattle.std.proofs.Common.{◌≡◌, ◌==◌, ◌+◌, ◌-◌, length, take, drop, ap, sym, ◌∙◌, arith, lit≤, w8, count_by}
use Rattle.std.specs.Int.RustNames.{count_ones}
use Rattle.std.proofs.lemmas.Simd.{bitmask_splat, ones-mask_l, length-chunk}
use Rattle.mr_kernels.proofs.count.count_in_block.Goals as goal

pub returns : goal.returns
returns c =
    let size : length (take 32 (drop c.args.at c.args.bytes.now)) ≡ 32 = length-chunk c.args.at 32 c.args.bytes.now c.requires in
    let width : c.args.at + 32 - c.args.at ≡ 32 = omega arith in
    ap count_ones (bitmask_splat w8 (λ x y. x == y) (take 32 (drop c.args.at c.args.bytes.now)) 32 c.args.byte size (lit≤ tt))
    ∙ ones-mask_l (λ x. x == c.args.byte) (take 32 (drop c.args.at c.args.bytes.now))
    ∙ ap (λ n. count_by (λ x. x == c.args.byte) (take n (drop c.args.at c.args.bytes.now))) (sym width)
