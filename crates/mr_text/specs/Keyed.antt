-- What the words of a text emit where a word gives a pair.
use Rattle.std.specs.Prelude.{ℕ, ℤ, List, [], ◌∷◌, map}
use Rattle.mr_defs.specs.Emission.{Emission, Pair}
use Rattle.mr_items.specs.Words.{word_at, words}

module _ {K : Type 0} (pair : List ℕ → K × ℤ) where
  -- the word that begins at a place
  abbrev pub word_emits : List ℕ → ℕ → List (Emission K ℤ)
  word_emits bytes place = Pair (pair (word_at bytes place)).0 (pair (word_at bytes place)).1 ∷ []

  -- each word of a stretch, as pairs of a block and as emissions
  abbrev pub word_pairs : List ℕ → List (K × ℤ)
  word_pairs bytes = map pair (words bytes)

  abbrev pub word_emissions : List ℕ → List (Emission K ℤ)
  word_emissions bytes = map (λ w. Pair (pair w).0 (pair w).1) (words bytes)
