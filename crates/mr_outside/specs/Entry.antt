-- The entries of a shelf in memory, and the one that is started.
use Rattle.std.specs.Prelude.{◌≡◌, ℕ, List, ◌<◌, ◌≤◌, length, map, Some, slice_get}
use Rattle.std.specs.declared.option.Option.{Option}
use Rattle.std.specs.Option.{option_map, option_and_then}
use Rattle.mr_outside.specs.declared.memory_shelf.Body.{Body}
use Rattle.mr_outside.specs.declared.memory_shelf.Body.TheVariants.{Stored, Repeated}
use Rattle.mr_outside.specs.declared.memory_shelf.Entry.{Entry}
use Rattle.mr_outside.specs.MemoryShelf.{told, repeated}

-- the bytes of a body
abbrev pub content_of : Body → List ℕ
content_of (Stored bytes) = bytes.items
content_of (Repeated byte count) = repeated byte count

-- the entries as names with their contents
abbrev pub contents_of : List Entry → List (List ℕ × List ℕ)
contents_of entries = map (λ entry. (entry.name, content_of entry.body)) entries

-- the name of the entry at this index, where there is one
abbrev pub name_at : List Entry → Option ℕ → Option (List ℕ)
name_at entries at = option_map (λ entry. entry.name) (option_and_then (slice_get entries) at)

-- the entry that is started is the first of its name, and the place stands in its content
pub record IsAt (entries : List Entry) (at : Option ℕ) (place : ℕ) : Type 0 where
  pub inside : (k : ℕ) → at ≡ Some k → k < length entries
  pub short : (k : ℕ) (entry : Entry) → at ≡ Some k → slice_get entries k ≡ Some entry
      → place ≤ length (content_of entry.body)
  pub first : (k : ℕ) (entry : Entry) → at ≡ Some k → slice_get entries k ≡ Some entry
      → told (contents_of entries) entry.name ≡ Some (content_of entry.body)
