-- An index of places by code: for each code the slots are tried in a fixed order, and a slot holds the word of a place, or nothing.
use Rattle.std.specs.Prelude.{◌≡◌, ◌≢◌, ℕ, ◌+◌, ◌-◌, ◌/◌, ◌^◌, ◌<◌, ◌≤◌, nat_lt, nat_eq, List, [], ◌∷◌, length, cond, slice_index}
use Rattle.std.specs.Int.Bits.{bit_and}
use Rattle.std.proofs.Props.{props}

-- of so many slots, the one that is tried first for a code
abbrev pub first_of : ℕ → ℕ → ℕ → ℕ
first_of size shift code = bit_and (code / 2 ^ shift) (size - 1)

-- the slot that is tried at a distance: from the first one on, and round
unfoldable pub slot_of : ℕ → ℕ → ℕ → ℕ → ℕ
slot_of size shift code distance = cond (nat_lt distance (size - first_of size shift code)) (first_of size shift code + distance)
    (distance - (size - first_of size shift code))

-- the bits of a code that no place of so many slots reaches
abbrev pub tag_of : ℕ → ℕ → ℕ
tag_of size code = bit_and code (4294967296 - size)

-- what a slot holds for the place of a code: the place and one, and the tag above it
unfoldable pub word_of : ℕ → ℕ → ℕ → ℕ
word_of size code place = tag_of size code + place + 1

-- how many slots hold something
abbrev pub used : List ℕ → ℕ
used [] = 0
used (value ∷ values) = cond (nat_eq value 0) (used values) (used values + 1)

module _ (size shift : ℕ) where
  -- the word of a place is found by the slots of its code, before the first with nothing
  pub record Indexed (index codes : List ℕ) : Type 0 where
    pub long : length index ≡ size
    pub count : used index ≡ length codes
    pub before : (place distance : ℕ) → place < length codes → distance < size
        → ((nearer : ℕ) → nearer ≤ distance
        → slice_index index (slot_of size shift (slice_index codes place) nearer) ≢ word_of size (slice_index codes place) place)
        → slice_index index (slot_of size shift (slice_index codes place) distance) ≢ 0
    pub there : (place : ℕ) → place < length codes
        → ((distance : ℕ) → distance < size
        → slice_index index (slot_of size shift (slice_index codes place) distance) ≢ word_of size (slice_index codes place) place)
        → ⊥

  -- the first slot with nothing that is tried for the code
  pub record IsFree (index : List ℕ) (code : ℕ) (at : ℕ) : Type 0 where
    pub within : at < size
    pub empty : slice_index index at ≡ 0
    pub before : (distance : ℕ) → distance < size
        → ((nearer : ℕ) → nearer ≤ distance → slot_of size shift code nearer ≢ at)
        → slice_index index (slot_of size shift code distance) ≢ 0
    pub there : ((distance : ℕ) → distance < size → slot_of size shift code distance ≢ at) → ⊥

pub Indexed-prop : (size shift : ℕ) (index codes : List ℕ) → IsProp (Indexed size shift index codes)
Indexed-prop size shift index codes = hlevel props
