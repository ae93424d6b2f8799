use Rattle.std.proofs.Common.{◌≡◌, ◌≤◌, length}
use Rattle.std.specs.Prelude.{All}
use Rattle.mr_defs.specs.Limits.{input_limit}
use Rattle.mr_top.proofs.InTurn.{Reads}
use Rattle.mr_top.proofs.inputs.take_all.Given as goal

abbrev pub invariant-loop-place : goal.invariant-loop-place
invariant-loop-place g l = record {
  kept : g.H.Shelf.contents l.shelf ≡ g.H.Shelf.contents l.initial.shelf;
  later : g.H.Shelf.count l.initial.shelf ≤ g.H.Shelf.count l.shelf;
  count : length l.inputs.items ≡ l.place;
  short : All (λ bytes. length bytes ≤ input_limit) l.inputs.items;
  reads : Reads (g.H.Shelf.contents l.initial.shelf) l.names l.place l.inputs.items;
}
