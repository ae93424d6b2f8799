-- What stands after a text was to be written.
use Rattle.std.specs.Prelude.{ℕ, List, codes, Option, Some, None}
use Rattle.std.specs.Io.KnownBytes.{Appends, Keeps}
use Rattle.mr_base.specs.declared.status.Status.{Status}
use Rattle.mr_base.specs.declared.status.Status.TheVariants as status
use Rattle.mr_items.specs.FaultLines.{fault_line}
use Rattle.mr_outside.specs.Count.{Rose}
use Rattle.mr_outside.specs.Sink.{AppendsPart}
use Rattle.mr_top.specs.Means.{Says}

-- the error output was told this, where there is something to tell
abbrev pub Told : Option (List ℕ) → Option (List ℕ) → Option (List ℕ) → ℕ → ℕ → Type 0
Told None old new before now = Keeps old new
Told (Some line) old new before now = Says line old new before now

-- the output has the text and the error output was told the report; or the output has a proper front of the text where its count rose, and
-- the error output was told of that
abbrev pub Writes : Status → List ℕ → Option (List ℕ) → Option (List ℕ) → Option (List ℕ) → ℕ → ℕ → Option (List ℕ) → Option (List ℕ) → ℕ
    → ℕ → Type 0
Writes status.Done text report old new before now told_old told_new told_before told_now =
    Appends old new text × Told report told_old told_new told_before told_now
Writes status.WriteFault text report old new before now told_old told_new told_before told_now =
    AppendsPart old new text × Rose before now × Says (fault_line (codes "write")) told_old told_new told_before told_now
Writes _ text report old new before now told_old told_new told_before told_now = ⊥
