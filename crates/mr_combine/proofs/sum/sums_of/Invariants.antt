use Rattle.std.proofs.Common.{◌≡◌, ◌≤◌, ◌<◌, ◌*◌, take}
use Rattle.std.specs.Prelude.{◌^◌}
use Rattle.std.specs.Int.{int_wrap, w64}
use Rattle.mr_defs.specs.Folded.{magnitude, total}
use Rattle.mr_combine.proofs.sum.sums_of.Given as goal

abbrev pub invariant-loop-i : goal.invariant-loop-i
invariant-loop-i g l = record {
  sum : l.sum ≡ int_wrap w64 (total (take l.i (g.R.Run.values l.run)));
  magnitudes : magnitude (take l.i (g.R.Run.values l.run)) < 2 ^ 64 → l.magnitudes ≡ magnitude (take l.i (g.R.Run.values l.run));
  bound : magnitude (take l.i (g.R.Run.values l.run)) ≤ l.i * l.bound;
}
