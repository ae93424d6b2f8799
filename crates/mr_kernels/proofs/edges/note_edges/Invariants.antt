use Rattle.std.proofs.Common.{◌≡◌, ◌≤◌, ◌-◌, ◌++◌, ◌==◌, false, length, take, map}
use Rattle.std.specs.Prelude.{slice_range}
use Rattle.mr_kernels.specs.Scan.{is_target}
use Rattle.mr_kernels.proofs.Runs.{edges_from}
use Rattle.mr_kernels.proofs.edges.note_edges.Given as goal

abbrev pub invariant-loop-at : goal.invariant-loop-at
invariant-loop-at l = record {
  later : l.from ≤ l.at;
  inside : l.at ≤ l.to;
  same : length l.edges ≡ length l.initial.edges;
  few : l.count ≤ l.at - l.from;
  bit : l.before ≤ 1;
  so_far : take l.count l.edges ++ edges_from (l.before == 1) (l.at - l.from) (map (is_target l.target) (slice_range l.bytes l.at l.to))
      ≡ edges_from false 0 (map (is_target l.target) (slice_range l.bytes l.from l.to));
}

abbrev pub decreases-loop-at : goal.decreases-loop-at
decreases-loop-at l = l.to - l.at
