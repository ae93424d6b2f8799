use Rattle.std.proofs.Common.{◌≡◌, ◌≤◌, ◌-◌, length, map, drop}
use Rattle.std.specs.Simd.Lanes.{mask_l}
use Rattle.mr_kernels.specs.Scan.{is_target}
use Rattle.mr_kernels.proofs.masks.sought_in_rest.Given as goal

abbrev pub invariant-loop-left : goal.invariant-loop-left
invariant-loop-left l = record {
  later : l.at ≤ l.left;
  inside : l.left ≤ length l.bytes;
  so_far : l.mask ≡ mask_l (map (is_target l.target) (drop l.left l.bytes));
}

abbrev pub decreases-loop-left : goal.decreases-loop-left
decreases-loop-left l = l.left - l.at
