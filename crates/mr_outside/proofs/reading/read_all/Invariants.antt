use Rattle.std.proofs.Common.{◌≡◌, ◌≤◌, ◌-◌, ◌+◌, ℕ, List, length, true, is_some}
use Rattle.mr_outside.specs.Shelf.{IsTold, IsMissing}
use Rattle.mr_outside.proofs.Front.{IsFront}
use Rattle.mr_outside.proofs.reading.read_all.Given as goal

abbrev pub invariant-loop-bytes : goal.invariant-loop-bytes
invariant-loop-bytes g l = record {
  kept : g.H.Shelf.contents l.shelf ≡ g.H.Shelf.contents l.fn.shelf;
  quiet : g.H.Shelf.count l.shelf ≡ g.H.Shelf.count l.fn.shelf;
  started : g.H.Shelf.is_started l.shelf ≡ true;
  name : is_some (g.H.Shelf.contents l.fn.shelf) ≡ true → g.H.Shelf.started l.shelf ≡ l.name;
  there : IsMissing (g.H.Shelf.contents l.fn.shelf) l.name → ⊥;
  place : g.H.Shelf.place l.shelf ≡ length l.bytes.items;
  inside : length l.bytes.items ≤ l.limit + 1;
  buf : length l.buf.items ≡ 65536;
  read : (content : List ℕ) → IsTold (g.H.Shelf.contents l.fn.shelf) l.name content → IsFront l.bytes.items content;
}

abbrev pub decreases-loop-bytes : goal.decreases-loop-bytes
decreases-loop-bytes g l = l.limit + 1 - length l.bytes.items
