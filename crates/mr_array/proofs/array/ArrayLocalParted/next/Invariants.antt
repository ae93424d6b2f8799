use Rattle.std.proofs.Common.{◌≡◌, ◌-◌, ◌%◌, ◌≤◌, ◌==◌, drop, filter}
use Rattle.mr_array.specs.Cells.{numbered}
use Rattle.mr_array.proofs.array.ArrayLocalParted.next.Given as goal

abbrev pub invariant-loop-cursor : goal.invariant-loop-cursor
invariant-loop-cursor g l = record {
  part : l.cursor.part ≡ l.initial.cursor.part;
  parts : l.cursor.parts ≡ l.initial.cursor.parts;
  some : 1 ≤ l.cursor.parts;
  stride : l.cursor.place % l.initial.cursor.parts ≡ l.initial.cursor.part;
  left : filter (λ e. e.0 % l.initial.cursor.parts == l.initial.cursor.part)
      (numbered l.initial.cursor.place (drop l.initial.cursor.place l.self.cells.items))
      ≡ filter (λ e. e.0 % l.initial.cursor.parts == l.initial.cursor.part)
      (numbered l.cursor.place (drop l.cursor.place l.self.cells.items));
}

abbrev pub decreases-loop-cursor : goal.decreases-loop-cursor
decreases-loop-cursor g l = g.S.Size.size - l.cursor.place
