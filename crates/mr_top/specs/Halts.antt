-- What it says of a stage that a run halts there.
use Rattle.std.specs.Prelude.{◌≡◌, ◌⊎◌, ℕ, List, codes, Some, None, Ok, Err, IsTrue}
use Rattle.std.specs.declared.option.Option.{Option}
use Rattle.std.specs.declared.result.Result.{Result}
use Rattle.mr_base.specs.declared.Stop.{Stop}
use Rattle.mr_base.specs.declared.Stop.TheVariants as stop
use Rattle.mr_base.specs.declared.status.Status.{Status}
use Rattle.mr_base.specs.declared.status.Status.TheVariants as status
use Rattle.mr_items.specs.FaultLines.{fault_line}
use Rattle.mr_outside.specs.Count.{Rose}
use Rattle.mr_jobs.specs.declared.Refusal.{Refusal}
use Rattle.mr_jobs.specs.Ending.{is_of_inputs}
use Rattle.mr_top.specs.declared.halt.Halt.{Halt}
use Rattle.mr_top.specs.declared.halt.Halt.TheVariants as halt
use Rattle.mr_top.specs.Stages.{Contents, Stage, ComesTo, usage, read_fault}

abbrev pub status_of_halt : Halt → Status
status_of_halt halt.Usage = status.Usage
status_of_halt (halt.Refused r) = r.status
status_of_halt halt.Read = status.ReadFault
status_of_halt halt.Memory = status.Memory

abbrev pub line_of_halt : Halt → List ℕ
line_of_halt halt.Usage = fault_line (codes "usage")
line_of_halt (halt.Refused r) = r.line
line_of_halt halt.Read = fault_line (codes "read")
line_of_halt halt.Memory = fault_line (codes "memory")

-- a refusal, or want of memory, of a step that reads nothing
abbrev pub halt_of : Stop Refusal → Halt
halt_of (stop.Refused r) = halt.Refused r
halt_of stop.Memory = halt.Memory

-- the shelf's count rose, or contents are told and the stage comes to a read fault
abbrev pub ReadCause : {A : Type 0} → Option Contents → Stage A → ℕ → ℕ → Type 0
ReadCause None stage before now = Rose before now
ReadCause (Some content) stage before now = Rose before now ⊎ (stage content ≡ read_fault)

-- the halt is the stage's refusal, or has a cause of its own
abbrev pub Halts : {A : Type 0} → Halt → Option Contents → Stage A → ℕ → ℕ → Type 0
Halts halt.Usage contents stage before now = ComesTo contents stage usage
Halts (halt.Refused r) contents stage before now = ComesTo contents stage (Err r)
Halts halt.Read contents stage before now = ReadCause contents stage before now
Halts halt.Memory contents stage before now = Unit {0}

-- neither the words nor the job file is refused
abbrev pub IsPastJob : Halt → Type 0
IsPastJob halt.Usage = ⊥
IsPastJob (halt.Refused r) = IsTrue (is_of_inputs r.status)
IsPastJob halt.Read = Unit {0}
IsPastJob halt.Memory = Unit {0}

-- the job file is refused
abbrev pub IsOfJob : Halt → Type 0
IsOfJob (halt.Refused r) = r.status ≡ status.Job
IsOfJob halt.Usage = ⊥
IsOfJob halt.Read = ⊥
IsOfJob halt.Memory = ⊥

-- the words aren't refused
abbrev pub IsPastWords : Halt → Type 0
IsPastWords h = IsPastJob h ⊎ IsOfJob h

-- the words are
abbrev pub IsUsage : Halt → Type 0
IsUsage halt.Usage = Unit {0}
IsUsage (halt.Refused r) = ⊥
IsUsage halt.Read = ⊥
IsUsage halt.Memory = ⊥

-- memory was wanted
abbrev pub IsMemory : Halt → Type 0
IsMemory halt.Usage = ⊥
IsMemory (halt.Refused r) = ⊥
IsMemory halt.Read = ⊥
IsMemory halt.Memory = Unit {0}

-- a refusal has the status of a job file
abbrev pub HasJobStatus : {B : Type 0} → Result B (Stop Refusal) → Type 0
HasJobStatus (Ok b) = Unit {0}
HasJobStatus (Err (stop.Refused r)) = r.status ≡ status.Job
HasJobStatus (Err stop.Memory) = Unit {0}

-- a refusal has the status of inputs or of a job file
abbrev pub HasLateStatus : {B : Type 0} → Result B (Stop Refusal) → Type 0
HasLateStatus (Ok b) = Unit {0}
HasLateStatus (Err (stop.Refused r)) = IsTrue (is_of_inputs r.status) ⊎ (r.status ≡ status.Job)
HasLateStatus (Err stop.Memory) = Unit {0}
