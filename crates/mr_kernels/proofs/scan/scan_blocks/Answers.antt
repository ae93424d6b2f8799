use Rattle.std.proofs.Common.{◌≡◌, ◌+◌, ◌≤◌, length, map, sym, ◌∙◌, arith}
use Rattle.std.specs.Simd.Lanes.{mask_l, chunk}
use Rattle.mr_kernels.specs.Scan.{is_target}
use Rattle.mr_kernels.proofs.Scans.{block_none, block_some, first_within}
use Rattle.mr_kernels.proofs.scan.scan_blocks.Goals as goal

pub returns-then-mask-ne0-clause-place : goal.returns-then-mask-ne0-clause-place
returns-then-mask-ne0-clause-place c =
    let room : c.loop-at.at + 64 ≤ length c.args.bytes.now = omega (arith, c.loop-at.invariant.inside) in
    block_some (is_target c.args.target) c.args.bytes.now c.loop-at.at 64 c.sought_in_block-mask.result room
    (omega arith) c.sought_in_block-mask.ensures c.if-mask-ne0.true ∙ c.loop-at.invariant.same

pub returns-then-mask-ne0-clause-inside : goal.returns-then-mask-ne0-clause-inside
returns-then-mask-ne0-clause-inside c =
    let room : c.loop-at.at + 64 ≤ length c.args.bytes.now = omega (arith, c.loop-at.invariant.inside) in
    let found = block_some (is_target c.args.target) c.args.bytes.now c.loop-at.at 64 c.sought_in_block-mask.result room
    (omega arith) c.sought_in_block-mask.ensures c.if-mask-ne0.true in
    let most = first_within (is_target c.args.target) c.args.bytes.now c.loop-at.at c.loop-at.invariant.inside in
    (omega (arith, c.loop-at.invariant.later), omega (arith, found, most))

pub loop-at-preserved : goal.loop-at-preserved
loop-at-preserved c =
    let room : c.loop-at.at + 64 ≤ length c.args.bytes.now = omega (arith, c.loop-at.invariant.inside) in
    let empty : mask_l (map (is_target c.args.target) (chunk c.loop-at.at 64 c.args.bytes.now)) ≡ 0 =
    sym c.sought_in_block-mask.ensures ∙ c.if-mask-ne0.false in
    record {
      inside = room;
      later = omega (arith, c.loop-at.invariant.later);
      same = block_none (is_target c.args.target) c.args.bytes.now c.loop-at.at 64 room empty ∙ c.loop-at.invariant.same;
    }
