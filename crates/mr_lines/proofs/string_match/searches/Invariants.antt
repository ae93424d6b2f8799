use Rattle.std.proofs.Common.{◌≡◌, map, take}
use Rattle.mr_lines.specs.Searches.{AreNext}
use Rattle.mr_lines.proofs.string_match.searches.Given as goal

abbrev pub invariant-loop-number : goal.invariant-loop-number
invariant-loop-number l = record {
  next : AreNext l.text l.stop l.from l.searches.items;
  finders : map (λ x. x.finder) l.searches.items ≡ take l.number l.patterns;
}
