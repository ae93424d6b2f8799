use Rattle.std.proofs.Common.{◌≡◌, ◌≢◌, ◌≤◌, ◌++◌, map, negsuc, take}
use Rattle.std.specs.List.{All}
use Rattle.std.specs.Prelude.{slice_range}
use Rattle.mr_defs.specs.Folded.{limit}
use Rattle.mr_lines.specs.Searches.{AreNext, standing}
use Rattle.mr_lines.proofs.string_match.push_standing.Given as goal

abbrev pub invariant-loop-number : goal.invariant-loop-number
invariant-loop-number l = record {
  next : AreNext l.text l.stop l.from l.searches.items;
  finders : map (λ x. x.finder) l.searches.items ≡ map (λ x. x.finder) l.initial.searches.items;
  pairs : l.block.items
      ≡ l.initial.block.items ++ standing (take l.number (map (λ x. x.finder) l.initial.searches.items)) (slice_range l.text l.from l.to);
  allowed : All (λ p. (p.0 ≤ limit) × (p.1 ≢ negsuc limit)) l.block.items;
}
