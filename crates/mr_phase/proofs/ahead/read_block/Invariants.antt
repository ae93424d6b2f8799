use Rattle.std.proofs.Common.{◌≡◌, ◌%◌, length, map, take}
use Rattle.std.specs.Prelude.{All}
use Rattle.mr_phase.specs.Packed.{picked}
use Rattle.mr_phase.specs.Taking.{pairs_of}
use Rattle.mr_phase.proofs.ahead.read_block.Given as goal

abbrev pub invariant-loop-place : goal.invariant-loop-place
invariant-loop-place g l = record {
  places : l.place-items ≡ map (λ w. w % length l.entries) l.words;
  leads : All (λ e. e.0 ≡ g.K.Key.lead_of e.1.now) l.block.items;
  all : pairs_of l.block.items ≡ picked l.entries (take l.place-index l.words);
  len : length l.block.items ≡ l.place-index;
}
