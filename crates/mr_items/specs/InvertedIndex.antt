-- Each word with the place of its line.
use Rattle.std.specs.Prelude.{ℕ, ℤ, pos, List, map, flat_map}
use Rattle.mr_defs.specs.Emission.{Emission, Pair}
use Rattle.mr_items.specs.Words.{words}
use Rattle.mr_items.specs.Lines.{line_at, line_places}

-- what the line that begins at a place emits; and what all lines do
abbrev pub inverted_index_emits : List ℕ → ℕ → List (Emission (List ℕ) ℤ)
inverted_index_emits bytes place = map (λ word. Pair word (pos place)) (words (line_at bytes place))

abbrev pub inverted_index_emissions : List ℕ → List (Emission (List ℕ) ℤ)
inverted_index_emissions bytes = flat_map (inverted_index_emits bytes) (line_places bytes)
