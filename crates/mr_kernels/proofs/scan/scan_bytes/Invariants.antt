use Rattle.std.proofs.Common.{◌≡◌}
use Rattle.mr_kernels.specs.Scan.{target_in}
use Rattle.mr_kernels.proofs.scan.scan_bytes.Given as goal

abbrev pub invariant-loop-at : goal.invariant-loop-at
invariant-loop-at l = target_in l.target l.bytes l.at ≡ target_in l.target l.bytes l.from
