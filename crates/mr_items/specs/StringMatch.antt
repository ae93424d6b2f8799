-- The patterns that stand in each line, by their numbers from 0.
use Rattle.std.specs.Prelude.{ℕ, ◌+◌, ℤ, pos, Bool, List, length, take, drop, map, filter, flat_map, bytes_eq}
use Rattle.std.specs.List.{list_any, range_with_len, enumerate_from}
use Rattle.mr_defs.specs.Emission.{Emission, Pair}
use Rattle.mr_items.specs.Lines.{line_at, line_places}

-- the pattern stands somewhere in the line, byte for byte
abbrev pub stands_in : List ℕ → List ℕ → Bool
stands_in line pattern = list_any (λ k. bytes_eq (take (length pattern) (drop k line)) pattern) (range_with_len 0 (length line + 1))

-- what the line that begins at a place emits; and what all lines do
abbrev pub string_match_emits : List (List ℕ) → List ℕ → ℕ → List (Emission ℕ ℤ)
string_match_emits patterns bytes place =
    map (λ e. Pair e.0 (pos 1)) (filter (λ e. stands_in (line_at bytes place) e.1) (enumerate_from 0 patterns))

abbrev pub string_match_emissions : List (List ℕ) → List ℕ → List (Emission ℕ ℤ)
string_match_emissions patterns bytes = flat_map (string_match_emits patterns bytes) (line_places bytes)
