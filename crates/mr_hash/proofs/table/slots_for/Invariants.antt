use Rattle.std.proofs.Common.{◌≤◌, ◌<◌, ◌-◌}
use Rattle.mr_hash.proofs.table.slots_for.Given as goal

abbrev pub invariant-loop-size : goal.invariant-loop-size
invariant-loop-size l = record {
  some : 16 ≤ l.size;
  few : l.size ≤ 4294967296;
  shift : l.shift < 64;
}

abbrev pub decreases-loop-size : goal.decreases-loop-size
decreases-loop-size l = 4294967296 - l.size
