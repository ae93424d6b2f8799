-- The answers of a whole read.
use Rattle.std.specs.Prelude.{ℕ, List, Result, Ok, Err}
use Rattle.mr_base.specs.declared.Stop.{Stop}
use Rattle.mr_base.specs.declared.Stop.TheVariants.{Refused, Memory}
use Rattle.mr_outside.specs.declared.reading.ReadStop.{ReadStop}
use Rattle.mr_outside.specs.declared.reading.ReadStop.TheVariants.{Fault, TooLong}

-- a call of the shelf failed
abbrev pub IsFault : Result (List ℕ) (Stop ReadStop) → Type 0
IsFault (Ok taken) = ⊥
IsFault (Err (Refused (Fault fault))) = Unit {0}
IsFault (Err (Refused TooLong)) = ⊥
IsFault (Err Memory) = ⊥

-- P, where no call of the shelf failed
abbrev pub UnlessFault : Result (List ℕ) (Stop ReadStop) → Type 0 → Type 0
UnlessFault (Ok taken) P = P
UnlessFault (Err (Refused (Fault fault))) P = Unit {0}
UnlessFault (Err (Refused TooLong)) P = P
UnlessFault (Err Memory) P = P
