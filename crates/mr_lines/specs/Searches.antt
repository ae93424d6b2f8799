-- Searches for patterns in a piece of a text, each at the next place of its pattern.
use Rattle.std.specs.Prelude.{ℕ, ◌+◌, ◌<◌, ◌≤◌, ℤ, pos, List, length, map, filter}
use Rattle.std.specs.List.{All, enumerate_from}
use Rattle.bstr.specs.Find.{OccursAt}
use Rattle.mr_items.specs.StringMatch.{stands_in}
use Rattle.mr_lines.specs.declared.search.Search.{Search}

-- the pattern stands nowhere from a place on and before the next one, in a piece with this end; where the next one isn't past the end, it
-- stands there
pub record IsNext (text pattern : List ℕ) (stop from next : ℕ) : Type 0 where
  pub before : (k : ℕ) → from ≤ k → k < next → k + length pattern ≤ stop → ¬ OccursAt text pattern k
  pub there : from ≤ next → next ≤ stop → OccursAt text pattern next

-- each search is at its next place
abbrev pub AreNext : List ℕ → ℕ → ℕ → List Search → Type 0
AreNext text stop from searches = All (λ s. IsNext text s.finder stop from s.next) searches

-- the pairs of a line: the number of each pattern that stands in it
abbrev pub standing : List (List ℕ) → List ℕ → List (ℕ × ℤ)
standing patterns line = map (λ e. (e.0, pos 1)) (filter (λ e. stands_in line e.1) (enumerate_from 0 patterns))
