-- How a run ends, as a function of its words and of the contents by name.
use Rattle.std.specs.Prelude.{ℕ, ◌+◌, ◌==◌, nat_lt, Bool, true, false, if◌then◌else◌, List, [], ◌∷◌, length, codes, Option, Some, None, Ok}
use Rattle.std.specs.Prelude.{Err}
use Rattle.std.specs.Option.{option_map_or}
use Rattle.std.specs.declared.result.Result.{Result}
use Rattle.mr_defs.specs.Limits.{input_limit}
use Rattle.mr_base.specs.declared.status.Status.{Status}
use Rattle.mr_base.specs.declared.status.Status.TheVariants as status
use Rattle.mr_items.specs.FaultLines.{input_line, inputs_line}
use Rattle.mr_items.specs.Generator.{generated}
use Rattle.mr_command.specs.declared.command.Mode.{Mode}
use Rattle.mr_command.specs.declared.command.Mode.TheVariants as mode
use Rattle.mr_command.specs.Form.{Form, form}
use Rattle.mr_capacity.specs.declared.jobs.JobKind.{JobKind}
use Rattle.mr_capacity.specs.declared.jobs.JobKind.TheVariants as kind
use Rattle.mr_jobfile.specs.declared.fault.JobFault.{JobFault}
use Rattle.mr_jobfile.specs.declared.fault.JobFault.TheVariants as fault
use Rattle.mr_jobfile.specs.FaultText.{job_line}
use Rattle.mr_jobfile.specs.JobOf.{job_of}
use Rattle.mr_jobfile.specs.Ranges.{job_limit}
use Rattle.mr_jobfile.specs.Values.{SeenJob}
use Rattle.mr_jobs.specs.Generated.{generated_ending}
use Rattle.mr_jobs.specs.Ending.{Ended, Ending, done, refused, passed}
use Rattle.mr_jobs.specs.Jobs.{job_ending, inputs_wanted}
use Rattle.mr_top.specs.Stages.{Contents, Stage, followed, usage, read_fault}

-- what the words ask for
abbrev pub formed : List (List ℕ) → Stage Form
formed words content = option_map_or Ok (form words) usage

-- these bytes, where they are no more than the limit
abbrev pub within : ℕ → List ℕ → Option (List ℕ)
within limit bytes = if nat_lt limit (length bytes) then None else Some bytes

-- the bytes of a name, none where they are more than the limit
abbrev pub bytes_at : List ℕ → ℕ → Stage (Option (List ℕ))
bytes_at name limit content = option_map_or (λ bytes. Ok (within limit bytes)) (content name) read_fault

-- the job that a reading gives, or the refusal of its fault
abbrev pub job_end : Result SeenJob JobFault → Ended SeenJob
job_end (Ok j) = Ok j
job_end (Err f) = refused status.Job (job_line f)

-- the job of a file, none of one that is too long
abbrev pub job_in : Option (List ℕ) → Ended SeenJob
job_in None = job_end (Err fault.TooLong)
job_in (Some bytes) = job_end (job_of bytes)

abbrev pub job_at : List ℕ → Stage SeenJob
job_at name = followed (bytes_at name job_limit) (λ read content. job_in read)

-- the bytes of the input with this number, from 1
abbrev pub input_in : ℕ → Option (List ℕ) → Ended (List ℕ)
input_in number None = refused status.Input (input_line number (codes "too long"))
input_in number (Some bytes) = Ok bytes

abbrev pub input_at : ℕ → List ℕ → Stage (List ℕ)
input_at number name = followed (bytes_at name input_limit) (λ read content. input_in number read)

-- the inputs of these names in their order, from this number on
abbrev pub inputs_from : ℕ → List (List ℕ) → Stage (List (List ℕ))
inputs_from number [] = λ content. Ok []
inputs_from number (name ∷ names) =
    followed (input_at number name) (λ bytes. followed (inputs_from (number + 1) names) (λ rest content. Ok (bytes ∷ rest)))

-- the number of inputs, where it is that of the job
abbrev pub counted : JobKind → ℕ → Ended ℕ
counted kind given = if given == inputs_wanted kind then Ok given else refused status.Input (inputs_line given (inputs_wanted kind))

-- as many inputs as the job has
abbrev pub inputs_of : JobKind → List (List ℕ) → Stage (List (List ℕ))
inputs_of kind names = followed (λ content. counted kind (length names)) (λ count. inputs_from 1 names)

-- the job on the inputs of these names
abbrev pub ran : SeenJob → List (List ℕ) → Stage (List ℕ)
ran j names = followed (inputs_of j.job names) (λ inputs content. job_ending j inputs)

-- the text that is generated, which no job but the count of words takes
abbrev pub generated_text : ℕ → ℕ → JobKind → Ended (List ℕ)
generated_text seed count kind.WordCount = Ok (generated seed count)
generated_text seed count _ = refused status.Job (job_line fault.Pairing)

-- the job on the text of this seed, with so many words
abbrev pub generated_run : SeenJob → ℕ → ℕ → Ending
generated_run j seed count = passed (generated_text seed count j.job) (generated_ending j)

-- to check the job is all, or it runs, on inputs or on a generated text
abbrev pub by_mode : SeenJob → List (List ℕ) → Mode → Stage (List ℕ)
by_mode j names mode.Run = ran j names
by_mode j names mode.Check = λ content. done (codes "ok\n")
by_mode j names (mode.Generate seed count) = λ content. generated_run j seed count

-- only a job that runs on inputs reads more than its file
abbrev pub reads_inputs : Mode → Bool
reads_inputs mode.Run = true
reads_inputs mode.Check = false
reads_inputs (mode.Generate seed count) = false

abbrev pub commanded : Form → Stage (List ℕ)
commanded f = followed (job_at f.job) (λ j. by_mode j f.inputs f.mode)

unfoldable pub run_ending : List (List ℕ) → Contents → Ending
run_ending words = followed (formed words) commanded

-- the status of an end
abbrev pub status_of : Ending → Status
status_of (Ok text) = status.Done
status_of (Err r) = r.status
