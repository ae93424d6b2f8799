use Rattle.std.proofs.Common.{◌≡◌, ◌≤◌, length, drop}
use Rattle.mr_outside.specs.Entry.{contents_of}
use Rattle.mr_outside.specs.MemoryShelf.{told}
use Rattle.mr_outside.proofs.memory_shelf.find.Given as goal

abbrev pub invariant-loop-k : goal.invariant-loop-k
invariant-loop-k l = record {
  inside : l.k ≤ length l.entries;
  so_far : told (contents_of l.entries) l.name ≡ told (contents_of (drop l.k l.entries)) l.name;
}
