use Rattle.std.proofs.Common.{◌≡◌, ◌≤◌, length}
use Rattle.mr_split.specs.Pieces.{boundary_of}
use Rattle.mr_split.proofs.Between.{end_of, moved, parts_from}
use Rattle.mr_split.proofs.cutting.cut.Given as goal

abbrev pub invariant-loop-number : goal.invariant-loop-number
invariant-loop-number l = record {
  some : 1 ≤ l.step;
  parts : l.pieces.items ≡ parts_from 0 (moved (boundary_of l.kind l.bytes) (length l.bytes) l.step l.number);
  last : l.last ≡ end_of 0 (moved (boundary_of l.kind l.bytes) (length l.bytes) l.step l.number);
  inside : l.last ≤ length l.bytes;
  few : length l.pieces.items ≤ l.number;
}
