-- What a shelf in memory holds, and where it stands.
use Rattle.std.specs.Prelude.{ℕ, List, [], ◌∷◌, Some, None, if◌then◌else◌, replicate, unwrap_or}
use Rattle.std.specs.declared.option.Option.{Option}
use Rattle.std.specs.Str.{bytes_eq}
use Rattle.mr_outside.specs.Calls.{Calls, fails_next}
use Rattle.mr_outside.specs.Count.{risen}

-- names with their contents in the order of their adding, the most bytes of a read, the name that is started,
-- the place reached in it, the calls of `start` and `read`, and the faults
pub record ShelfState : Type 0 where
  pub contents : List (List ℕ × List ℕ)
  pub cut : ℕ
  pub started : Option (List ℕ)
  pub place : ℕ
  pub calls : Calls
  pub faults : ℕ

-- the content of the first entry of this name
abbrev pub told : List (List ℕ × List ℕ) → List ℕ → Option (List ℕ)
told [] name = None
told (entry ∷ entries) name = if bytes_eq entry.0 name then Some entry.1 else told entries name

-- the content of the name that is started
abbrev pub started_content : ShelfState → Option (List ℕ)
started_content shelf = told shelf.contents (unwrap_or shelf.started [])

-- one byte again and again
unfoldable pub repeated : ℕ → ℕ → List ℕ
repeated byte count = replicate count byte

-- the faults after the next call, where only a call that is to fail is one
abbrev pub faults_after : ShelfState → ℕ
faults_after shelf = if fails_next shelf.calls then risen shelf.faults else shelf.faults
