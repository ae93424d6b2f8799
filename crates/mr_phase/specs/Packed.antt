-- One number for an entry: the front of its lead, and its place below it.
use Rattle.std.specs.Prelude.{◌≡◌, ◌<◌, ◌-◌, ◌+◌, ◌*◌, ◌/◌, ◌%◌, ℕ, nat_lt, if◌then◌else◌, Bool, false, All, List, [], ◌∷◌, length}
use Rattle.std.specs.Prelude.{filter_map, slice_get, slice_index_or}

-- the greatest front that is told apart among so many places
abbrev pub most_of : ℕ → ℕ
most_of count = 18446744073709551615 / count - 1

-- what is kept of a lead: how often it has the unit, and no more than is told apart
abbrev pub front_of : ℕ → ℕ → ℕ → ℕ
front_of unit count lead = if nat_lt (most_of count) (lead / unit) then most_of count else lead / unit

module _ (unit count : ℕ) where
  abbrev pub word_of : ℕ → ℕ → ℕ
  word_of at lead = front_of unit count lead * count + at

  -- the numbers of entries with these leads, from a place on
  abbrev pub words_from : ℕ → List ℕ → List ℕ
  words_from at [] = []
  words_from at (lead ∷ leads) = word_of at lead ∷ words_from (at + 1) leads

module _ {X : Type 0} where
  -- the entries at the places of these numbers
  abbrev pub picked : List X → List ℕ → List X
  picked entries words = filter_map (λ w. slice_get entries (w % length entries)) words

  -- the number tells the front of the entry at its place
  abbrev pub Tells : (X → ℕ) → List X → ℕ → Type 0
  Tells front entries w = (d : X) → front (slice_index_or entries (w % length entries) d) ≡ w / length entries

  -- what orders by its numbers, and what numbers tell of the entries
  pub record Fronts (lt : X → X → Bool) (entries : List X) (words : List ℕ) : Type 0 where
    pub front : X → ℕ
    pub orders : (a b : X) → front a < front b → lt b a ≡ false
    pub tells : All (Tells front entries) words
