use Rattle.std.proofs.Common.{◌<◌, ◌^◌, drop, map, arith, rules}
use Rattle.std.proofs.lemmas.List.{length-map, length-drop}
use Rattle.mr_kernels.specs.Scan.{is_target}
use Rattle.mr_kernels.proofs.Bits.{below}
use Rattle.mr_kernels.proofs.masks.sought_in_rest.Goals as goal

pub overflow_mul-mask : goal.overflow_mul-mask
overflow_mul-mask c =
    let less = below 62 (map (is_target c.args.target) (drop c.loop-left.left c.args.bytes.now))
    (omega (
      arith,
      length-map (drop c.loop-left.left c.args.bytes.now) (is_target c.args.target),
      length-drop c.loop-left.left c.args.bytes.now,
      c.loop-left-test.true,
      c.requires.few,
    )) in
    omega (arith, less, c.loop-left.invariant.so_far)

pub overflow_add-mask : goal.overflow_add-mask
overflow_add-mask c =
    let less = below 62 (map (is_target c.args.target) (drop c.loop-left.left c.args.bytes.now))
    (omega (
      arith,
      length-map (drop c.loop-left.left c.args.bytes.now) (is_target c.args.target),
      length-drop c.loop-left.left c.args.bytes.now,
      c.loop-left-test.true,
      c.requires.few,
    )) in
    let mask : c.loop-left.mask < 2 ^ 62 = omega (arith, less, c.loop-left.invariant.so_far) in
    search rules
