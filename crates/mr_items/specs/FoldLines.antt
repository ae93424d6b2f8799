-- A key and a value in each line.
use Rattle.std.specs.Prelude.{ℕ, ℤ, List, [], ◌∷◌, flat_map, Option, Some, option_and_then, option_map}
use Rattle.std.specs.Option.{option_map_or}
use Rattle.mr_defs.specs.Emission.{Emission, Pair, Malformed}
use Rattle.mr_items.specs.Lines.{line_at, line_places, fields}
use Rattle.mr_items.specs.Number.{number_of, key_of}

-- a field as a key: every one, or a number that is at least 0
abbrev pub bytes_key : List ℕ → Option (List ℕ)
bytes_key text = Some text

abbrev pub number_key : List ℕ → Option ℕ
number_key text = key_of text

module _ {K : Type 0} (key : List ℕ → Option K) where
  -- the first field as a key with the second as a number, where both are in form
  abbrev pub pair_in : List ℕ → List ℕ → Option (Emission K ℤ)
  pair_in first second = option_and_then (λ k. option_map (λ v. Pair k v) (number_of second)) (key first)

  -- what a line with these fields emits, that begins at this place
  abbrev pub fields_emit : ℕ → List (List ℕ) → List (Emission K ℤ)
  fields_emit place [] = []
  fields_emit place (one ∷ []) = Malformed place ∷ []
  fields_emit place (first ∷ second ∷ []) = option_map_or (λ e. e ∷ []) (pair_in first second) (Malformed place ∷ [])
  fields_emit place (first ∷ second ∷ third ∷ rest) = Malformed place ∷ []

  -- what the line that begins at a place emits; and what all lines do
  abbrev pub fold_lines_emits : List ℕ → ℕ → List (Emission K ℤ)
  fold_lines_emits bytes place = fields_emit place (fields (line_at bytes place))

  abbrev pub fold_lines_emissions : List ℕ → List (Emission K ℤ)
  fold_lines_emissions bytes = flat_map (fold_lines_emits bytes) (line_places bytes)
