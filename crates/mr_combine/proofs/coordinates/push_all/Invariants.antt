use Rattle.std.proofs.Common.{◌≡◌, ◌≤◌, ◌+◌, ◌-◌, ◌++◌, length, map, take, vec_len, vec_capacity}
use Rattle.mr_combine.proofs.coordinates.push_all.Given as goal

abbrev pub invariant-loop-other : goal.invariant-loop-other
invariant-loop-other g l = record {
  begun : l.sums.items ≡ l.initial.sums.items ++ map g.S.Summand.sum_of (take l.other-index l.others);
  room : vec_len l.sums + (length l.others - l.other-index) ≤ vec_capacity l.sums;
}
