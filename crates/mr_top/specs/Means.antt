-- What stands after a run.
use Rattle.std.specs.Prelude.{◌≡◌, ◌⊎◌, ℕ, Bool, true, false, List, length, codes, Option, Some, None}
use Rattle.std.specs.Io.KnownBytes.{Appends, Keeps}
use Rattle.mr_base.specs.declared.status.Status.{Status}
use Rattle.mr_base.specs.declared.status.Status.TheVariants as status
use Rattle.mr_items.specs.FaultLines.{fault_line}
use Rattle.mr_outside.specs.Count.{Rose}
use Rattle.mr_outside.specs.Sink.{AppendsPart}
use Rattle.mr_jobs.specs.Ending.{done, refused}
use Rattle.mr_items.specs.Report.{Work, report_text}
use Rattle.mr_top.specs.Reports.{IsOfWords, reports}
use Rattle.mr_top.specs.RunEnding.{run_ending}
use Rattle.mr_top.specs.Stages.{Contents, ComesTo}

-- the run ends by a refusal with this status, and the output gained nothing
abbrev pub IsRefusal : Status → Option Contents → List (List ℕ) → Option (List ℕ) → Option (List ℕ) → Type 0
IsRefusal s contents words old new = ((line : List ℕ) × ComesTo contents (run_ending words) (refused s line)) × Keeps old new

-- after each status: how the run ends, where contents are told, and what the output gained
abbrev pub Means : Status → Option Contents → List (List ℕ) → Option (List ℕ) → Option (List ℕ) → Type 0
Means status.Done contents words old new = (bytes : List ℕ) × ComesTo contents (run_ending words) (done bytes) × Appends old new bytes
Means status.WriteFault contents words old new =
    (bytes : List ℕ) × ComesTo contents (run_ending words) (done bytes) × AppendsPart old new bytes
Means status.ReadFault contents words old new = Keeps old new
Means status.Memory contents words old new = Keeps old new
Means status.Usage contents words old new = IsRefusal status.Usage contents words old new
Means status.Job contents words old new = IsRefusal status.Job contents words old new
Means status.Input contents words old new = IsRefusal status.Input contents words old new
Means status.Outside contents words old new = IsRefusal status.Outside contents words old new
Means status.Twice contents words old new = IsRefusal status.Twice contents words old new
Means status.Over contents words old new = IsRefusal status.Over contents words old new

-- a line was written, or a proper front of it where the count rose
abbrev pub Says : List ℕ → Option (List ℕ) → Option (List ℕ) → ℕ → ℕ → Type 0
Says line old new before now = Appends old new line ⊎ (AppendsPart old new line × Rose before now)

-- the line of the refusal by which the run ends was written
abbrev pub SaysEnding : Status → Option Contents → List (List ℕ) → Option (List ℕ) → Option (List ℕ) → ℕ → ℕ → Type 0
SaysEnding s contents words old new before now =
    (line : List ℕ) × ComesTo contents (run_ending words) (refused s line) × Says line old new before now

-- after Done: the report, where the words ask for one
abbrev pub TellsDone : Bool → Option Contents → List (List ℕ) → Option (List ℕ) → Option (List ℕ) → ℕ → ℕ → Type 0
TellsDone false contents words old new before now = Keeps old new
TellsDone true contents words old new before now =
    (rounds : List (List Work)) × IsOfWords contents words rounds × Says (report_text rounds) old new before now

-- after each status: what the error output gained
abbrev pub Tells : Status → Option Contents → List (List ℕ) → Option (List ℕ) → Option (List ℕ) → ℕ → ℕ → Type 0
Tells status.Done contents words old new before now = TellsDone (reports words) contents words old new before now
Tells status.WriteFault contents words old new before now = Says (fault_line (codes "write")) old new before now
Tells status.ReadFault contents words old new before now = Says (fault_line (codes "read")) old new before now
Tells status.Memory contents words old new before now = Says (fault_line (codes "memory")) old new before now
Tells status.Usage contents words old new before now = Says (fault_line (codes "usage")) old new before now
Tells status.Job contents words old new before now = SaysEnding status.Job contents words old new before now
Tells status.Input contents words old new before now = SaysEnding status.Input contents words old new before now
Tells status.Outside contents words old new before now = SaysEnding status.Outside contents words old new before now
Tells status.Twice contents words old new before now = SaysEnding status.Twice contents words old new before now
Tells status.Over contents words old new before now = SaysEnding status.Over contents words old new before now

-- the name that was started last is this one, and it was read to its end
abbrev pub ReadAlone : Option Contents → List ℕ → Bool → List ℕ → ℕ → Type 0
ReadAlone None name is_started started place = is_started ≡ true
ReadAlone (Some content) name is_started started place =
    (is_started ≡ true) × (started ≡ name) × ((bytes : List ℕ) → content name ≡ Some bytes → place ≡ length bytes)
