-- What a write does to the bytes that a sink holds.
use Rattle.std.specs.Prelude.{ℕ, ◌<◌, ◌≤◌, List, length, take}
use Rattle.std.specs.declared.option.Option.{Option}
use Rattle.std.specs.Io.KnownBytes.{Appends, Keeps}
use Rattle.mr_outside.specs.declared.sink.Put.{Put}
use Rattle.mr_outside.specs.declared.sink.Put.TheVariants.{Took, Failed}

-- the bytes that a write took were appended, and nothing by one that failed
abbrev pub Takes : Option (List ℕ) → Option (List ℕ) → Put → List ℕ → Type 0
Takes old new (Took n) piece = (1 ≤ n) × (n ≤ length piece) × Appends old new (take n piece)
Takes old new Failed piece = Keeps old new

-- a proper front of these bytes was appended
pub record AppendsPart (old new : Option (List ℕ)) (bytes : List ℕ) : Type 0 where
  pub count : ℕ
  pub proper : count < length bytes
  pub part : Appends old new (take count bytes)
