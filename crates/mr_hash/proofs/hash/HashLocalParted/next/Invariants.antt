use Rattle.std.proofs.Common.{◌≡◌, ◌≤◌, ◌-◌, drop, length}
use Rattle.mr_hash.specs.Pairs.{pairs_of}
use Rattle.mr_hash.specs.Buckets.{of_partition}
use Rattle.mr_hash.proofs.hash.HashLocalParted.next.Given as goal

abbrev pub invariant-loop-cursor : goal.invariant-loop-cursor
invariant-loop-cursor g l = record {
  part : l.cursor.part ≡ l.initial.cursor.part;
  parts : l.cursor.parts ≡ l.initial.cursor.parts;
  some : 1 ≤ l.cursor.parts;
  left : of_partition g.K.Key.hash_of g.row.N l.initial.cursor.parts l.initial.cursor.part
      (drop l.initial.cursor.place (pairs_of l.self.table.entries.items))
      ≡ of_partition g.K.Key.hash_of g.row.N l.initial.cursor.parts l.initial.cursor.part
      (drop l.cursor.place (pairs_of l.self.table.entries.items));
}

abbrev pub decreases-loop-cursor : goal.decreases-loop-cursor
decreases-loop-cursor g l = length l.self.table.buckets.items - l.cursor.place
