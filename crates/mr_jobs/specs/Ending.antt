-- How a run ends: with the bytes that are written, or refused with a status and the line that says why.
use Rattle.std.specs.Prelude.{ℕ, Bool, true, false, List, ◌++◌, codes, decimal, Ok, Err}
use Rattle.std.specs.declared.result.Result.{Result}
use Rattle.mr_base.specs.declared.status.Status.{Status}
use Rattle.mr_base.specs.declared.status.Status.TheVariants as status
use Rattle.mr_defs.specs.declared.Fault.{Fault}
use Rattle.mr_defs.specs.declared.Fault.TheVariants as fault
use Rattle.mr_items.specs.FaultLines.{emissions_line}
use Rattle.mr_jobs.specs.declared.refusal.Refusal.{Refusal}

-- what a step of a run comes to: a value that is passed on, or a refusal
abbrev pub Ended : Type 0 → Type 0
Ended A = Result A Refusal

abbrev pub Ending : Type 0
Ending = Ended (List ℕ)

abbrev pub done : List ℕ → Ending
done text = Ok text

abbrev pub refused : {A : Type 0} → Status → List ℕ → Ended A
refused s line = Err (record { status = s; line = line })

-- the next step of what is passed on
abbrev pub passed : {A B : Type 0} → Ended A → (A → Ended B) → Ended B
passed (Ok a) next = next a
passed (Err r) next = Err r

-- the words of a line on the input with this number, from 1
abbrev pub input_words : ℕ → List ℕ → List ℕ
input_words i text = codes "input " ++ (decimal i ++ (codes " " ++ text))

-- the status of a fault of emissions
abbrev pub status_of_fault : {K : Type 0} → Fault K → Status
status_of_fault (fault.Malformed o) = status.Input
status_of_fault (fault.Outside k) = status.Outside
status_of_fault (fault.Twice k) = status.Twice
status_of_fault (fault.Over k) = status.Over

-- a fault of emissions as a refusal, where shown says a key
abbrev pub refused_by : {A K : Type 0} → (K → List ℕ) → Fault K → Ended A
refused_by shown f = refused (status_of_fault f) (emissions_line shown f)

-- what emissions come to, or the refusal of their fault
abbrev pub ended_by : {A K : Type 0} → (K → List ℕ) → Result A (Fault K) → Ended A
ended_by shown (Ok a) = Ok a
ended_by shown (Err f) = refused_by shown f

-- the statuses of refused inputs: of their form, of a key outside, of one emitted twice, of one that is over
abbrev pub is_of_inputs : Status → Bool
is_of_inputs status.Input = true
is_of_inputs status.Outside = true
is_of_inputs status.Twice = true
is_of_inputs status.Over = true
is_of_inputs status.Done = false
is_of_inputs status.Usage = false
is_of_inputs status.Job = false
is_of_inputs status.ReadFault = false
is_of_inputs status.WriteFault = false
is_of_inputs status.Memory = false
