use Rattle.std.proofs.Common.{◌≡◌, ◌≢◌, negsuc}
use Rattle.std.specs.List.{All}
use Rattle.std.specs.Prelude.{slice_range}
use Rattle.mr_defs.specs.Folded.{limit}
use Rattle.mr_text.proofs.Pushed.{pushed}
use Rattle.mr_text.proofs.strips.push_words.Given as goal

abbrev pub invariant-loop-i : goal.invariant-loop-i
invariant-loop-i g l = record {
  items : l.block.items ≡ pushed (g.J.WordJob.pair_of l.job) (slice_range l.text l.from l.to) l.initial.block.items l.i;
  allowed : All (λ p. g.K.Key.allowed p.0 × (p.1 ≢ negsuc limit)) l.block.items;
}
