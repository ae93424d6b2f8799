use Rattle.std.proofs.Common.{◌≡◌, ◌≤◌, ◌-◌, length}
use Rattle.mr_kernels.specs.Scan.{target_in}
use Rattle.mr_kernels.proofs.scan.scan_blocks.Given as goal

abbrev pub invariant-loop-at : goal.invariant-loop-at
invariant-loop-at l = record {
  inside : l.at ≤ length l.bytes;
  later : l.from ≤ l.at;
  same : target_in l.target l.bytes l.at ≡ target_in l.target l.bytes l.from;
}

abbrev pub decreases-loop-at : goal.decreases-loop-at
decreases-loop-at l = length l.bytes - l.at
