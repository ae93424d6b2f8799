use Rattle.std.proofs.Common.{◌≢◌, ◌≤◌, negsuc}
use Rattle.std.specs.List.{All}
use Rattle.mr_container.specs.Block.{block_emissions}
use Rattle.mr_defs.specs.Folded.{limit}
use Rattle.mr_text.specs.Sent.{Sent}
use Rattle.mr_numeric.specs.Pairs.{row_pair_emits}
use Rattle.mr_numeric.proofs.Emitted.{emitted}
use Rattle.mr_numeric.proofs.product.RowPairsItems.emit_items.Given as goal

abbrev pub invariant-loop-item : goal.invariant-loop-item
invariant-loop-item g l = record {
  from : l.initial.item ≤ l.item;
  allowed : All (λ p. (p.0 ≤ limit) × (p.1 ≢ negsuc limit)) l.block.items;
  sent : Sent g.L.Local.stands l.initial.out l.out (emitted (row_pair_emits l.self.left.now l.self.right.now) l.initial.item l.item)
      (block_emissions l.block.items);
  origin : g.L.Local.same_origin l.initial.out l.out;
}
