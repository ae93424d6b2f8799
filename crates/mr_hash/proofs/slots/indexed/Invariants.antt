use Rattle.std.proofs.Common.{◌≡◌, take, map, vec_len}
use Rattle.mr_hash.specs.Pairs.{keys_of}
use Rattle.mr_hash.specs.Slots.{Indexed}
use Rattle.mr_hash.proofs.slots.indexed.Given as goal

abbrev pub invariant-loop-entry : goal.invariant-loop-entry
invariant-loop-entry g l = record {
  size : vec_len l.index ≡ l.size;
  at : l.at ≡ l.entry-index;
  indexed : Indexed l.size l.shift l.index.items (map g.K.Key.code_of (keys_of (take l.entry-index l.entries)));
}
