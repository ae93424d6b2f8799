-- A line that was to be written whole.
use Rattle.std.proofs.Common.{ℕ, List, Ok, Err, inl, inr}
use Rattle.std.specs.Result.{OnOk, OnErr}
use Rattle.std.specs.declared.option.Option.{Option}
use Rattle.std.specs.declared.result.Result.{Result}
use Rattle.std.specs.Io.KnownBytes.{Appends}
use Rattle.mr_outside.specs.Count.{Rose}
use Rattle.mr_outside.specs.Sink.{AppendsPart}
use Rattle.mr_outside.specs.declared.writing.WriteFault.{WriteFault}
use Rattle.mr_top.specs.Means.{Says}

-- it stands there, or a proper front of it where the count rose
pub said : (r : Result (Unit {0}) WriteFault) (line : List ℕ) (old new : Option (List ℕ)) (before now : ℕ) → OnOk r (Appends old new line)
    → OnErr r (AppendsPart old new line) → OnErr r (Rose before now) → Says line old new before now
said (Ok u) line old new before now whole part rose = inl whole
said (Err e) line old new before now whole part rose = inr (part, rose)
