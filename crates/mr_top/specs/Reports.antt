-- The report that the error output gains after a run.
use Rattle.std.specs.Prelude.{◌≡◌, ℕ, Bool, true, false, List, [], ◌∷◌, Option, Some, None, Ok}
use Rattle.std.specs.Option.{option_map_or}
use Rattle.mr_items.specs.Generator.{generated}
use Rattle.mr_items.specs.Report.{Work, report_text}
use Rattle.mr_command.specs.declared.command.Mode.{Mode}
use Rattle.mr_command.specs.declared.command.Mode.TheVariants as mode
use Rattle.mr_command.specs.Form.{Form, form}
use Rattle.mr_jobfile.specs.Values.{SeenJob}
use Rattle.mr_jobs.specs.Jobs.{IsLawfulReport}
use Rattle.mr_top.specs.RunEnding.{job_at, inputs_of}
use Rattle.mr_top.specs.Stages.{Contents, Stage, ComesTo}

-- a mode in which a job runs has the report that was asked for
abbrev pub reports_in : Mode → Bool → Bool
reports_in mode.Run asked = asked
reports_in mode.Check asked = false
reports_in (mode.Generate seed count) asked = asked

abbrev pub reports : List (List ℕ) → Bool
reports words = option_map_or (λ f. reports_in f.mode f.report) (form words) false

-- the inputs that a job runs on
abbrev pub inputs_by : Mode → List (List ℕ) → SeenJob → Stage (List (List ℕ))
inputs_by mode.Run names j = inputs_of j.job names
inputs_by mode.Check names j = λ content. Ok []
inputs_by (mode.Generate seed count) names j = λ content. Ok (generated seed count ∷ [])

-- these are the rounds of a job with so many workers, on the inputs that it comes to
abbrev pub IsOfJobReport : Option Contents → Mode → List (List ℕ) → SeenJob → ℕ → List (List Work) → Type 0
IsOfJobReport contents m names j workers rounds =
    (inputs : List (List ℕ)) × ComesTo contents (inputs_by m names j) (Ok inputs) × IsLawfulReport j inputs (Some workers) rounds

-- and of what a command asks for; and of what words do
abbrev pub IsOfCommand : Option Contents → Form → List (List Work) → Type 0
IsOfCommand contents f rounds =
    (j : SeenJob) × ComesTo contents (job_at f.job) (Ok j) × IsOfJobReport contents f.mode f.inputs j f.workers rounds

abbrev pub IsOfWords : Option Contents → List (List ℕ) → List (List Work) → Type 0
IsOfWords contents words rounds = (f : Form) × (form words ≡ Some f) × IsOfCommand contents f rounds

-- where a report is asked for it is the text of such rounds, and else there is none
abbrev pub Reports : Bool → (List (List Work) → Type 0) → Option (List ℕ) → Type 0
Reports false Is report = report ≡ None
Reports true Is report = (rounds : List (List Work)) × Is rounds × (report ≡ Some (report_text rounds))
