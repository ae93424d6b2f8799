use Rattle.std.proofs.Common.{◌≡◌, ◌≢◌, ◌≤◌, ◌-◌, ◌++◌, true, length, negsuc}
use Rattle.std.specs.List.{All}
use Rattle.std.specs.Prelude.{slice_range}
use Rattle.mr_defs.specs.Folded.{limit}
use Rattle.mr_items.specs.Words.{is_word_boundary}
use Rattle.mr_container.specs.Block.{block_emissions}
use Rattle.mr_text.specs.Keyed.{word_emissions}
use Rattle.mr_text.specs.Sent.{Sent}
use Rattle.mr_text.proofs.strips.emit_words.Given as goal

abbrev pub invariant-loop-at : goal.invariant-loop-at
invariant-loop-at g l = record {
  later : l.from ≤ l.at;
  inside : l.at ≤ l.to;
  between : is_word_boundary l.text l.at ≡ true;
  room : length l.edges ≡ 1088;
  allowed : All (λ p. g.K.Key.allowed p.0 × (p.1 ≢ negsuc limit)) l.block.items;
  sent : Sent g.L.Local.stands l.initial.out l.out
      (block_emissions l.initial.block.items ++ word_emissions (g.J.WordJob.pair_of l.job) (slice_range l.text l.from l.at))
      (block_emissions l.block.items);
  origin : g.L.Local.same_origin l.initial.out l.out;
}

abbrev pub decreases-loop-at : goal.decreases-loop-at
decreases-loop-at g l = l.to - l.at
