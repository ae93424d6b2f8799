use Rattle.std.proofs.Common.{◌≡◌, ◌==◌, ◌+◌, ◌-◌, ◌≤◌, cond, length, take, drop, ap, sym, ◌∙◌, arith, count_by}
use Rattle.std.proofs.lemmas.List.Sums.{count_by-le-length, sum_by-take-drop}
use Rattle.std.proofs.lemmas.List.{take_rest}
use Rattle.std.proofs.lemmas.Simd.{length-chunk}
use Rattle.mr_kernels.proofs.Blocks.{count_by-take-add}
use Rattle.mr_kernels.proofs.count.count_byte.Goals as goal

pub loop-at-preserved : goal.loop-at-preserved
loop-at-preserved c =
    let room : c.loop-at.at + 32 ≤ length c.args.bytes.now = omega (arith, c.loop-at.invariant.inside, c.loop-at-test.true) in
    let width : c.loop-at.at + 32 - c.loop-at.at ≡ 32 = omega arith in
    let block : c.count_in_block.result ≡ count_by (λ b. b == c.args.byte) (take 32 (drop c.loop-at.at c.args.bytes.now)) =
    c.count_in_block.ensures ∙ ap (λ n. count_by (λ b. b == c.args.byte) (take n (drop c.loop-at.at c.args.bytes.now))) width in
    let most = count_by-le-length (λ b. b == c.args.byte) (take 32 (drop c.loop-at.at c.args.bytes.now)) in
    let size = length-chunk c.loop-at.at 32 c.args.bytes.now room in
    record {
      inside = room;
      few = omega (arith, block, most, size, c.loop-at.invariant.few);
      so_far = ap (λ n. n + c.count_in_block.result) c.loop-at.invariant.so_far
          ∙ ap (λ n. count_by (λ b. b == c.args.byte) (take c.loop-at.at c.args.bytes.now) + n) block
          ∙ sym (count_by-take-add (λ b. b == c.args.byte) c.args.bytes.now c.loop-at.at 32);
    }

pub returns : goal.returns
returns c =
    let bytes = c.args.bytes.now in
    let rest : c.count_rest.result ≡ count_by (λ b. b == c.args.byte) (drop c.loop-at.at bytes) =
    c.count_rest.ensures ∙ ap (count_by (λ b. b == c.args.byte)) (take_rest bytes c.loop-at.at) in
    omega (arith, rest, c.loop-at.invariant.so_far, sum_by-take-drop (λ b. cond (b == c.args.byte) 1 0) bytes c.loop-at.at)
