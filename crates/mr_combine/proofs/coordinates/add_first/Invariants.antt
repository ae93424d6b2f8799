use Rattle.std.proofs.Common.{◌≡◌, length, map, take}
use Rattle.mr_defs.specs.Folded.{limit}
use Rattle.mr_combine.specs.Zipped.{zip_longest}
use Rattle.mr_combine.specs.Sums.{sum_merged}
use Rattle.mr_combine.proofs.coordinates.add_first.Given as goal

abbrev pub invariant-loop-at : goal.invariant-loop-at
invariant-loop-at g l = record {
  added : l.sums ≡ zip_longest (sum_merged limit) l.initial.sums (map g.S.Summand.sum_of (take l.at l.others));
  long : length l.sums ≡ length l.initial.sums;
}
