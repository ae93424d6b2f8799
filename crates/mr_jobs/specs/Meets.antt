-- Code that gives what a definition does, or wants memory.
use Rattle.std.specs.Prelude.{◌≡◌, List, IsTrue, Ok, Err}
use Rattle.std.specs.declared.result.Result.{Result}
use Rattle.mr_base.specs.declared.Stop.{Stop}
use Rattle.mr_base.specs.declared.Stop.TheVariants as stop
use Rattle.mr_defs.specs.Emission.{Row}
use Rattle.mr_defs.specs.declared.Fault.{Fault}
use Rattle.std.specs.declared.cmp.Ordering.{Ordering}
use Rattle.mr_jobs.specs.declared.phases.Round.{Round}
use Rattle.mr_jobs.specs.declared.refusal.Refusal.{Refusal}
use Rattle.mr_jobs.specs.Ending.{is_of_inputs}
use Rattle.mr_merge.specs.Merged.{AreMerged}

-- a value, seen so, or a refusal that the definition has; want of memory says nothing
abbrev pub MeetsSeen : {A B E : Type 0} → (B → A) → Result A E → Result B (Stop E) → Type 0
MeetsSeen see meant (Ok b) = meant ≡ Ok (see b)
MeetsSeen see meant (Err (stop.Refused e)) = meant ≡ Err e
MeetsSeen see meant (Err stop.Memory) = Unit {0}

abbrev pub Meets : {A E : Type 0} → Result A E → Result A (Stop E) → Type 0
Meets meant given = MeetsSeen (λ a. a) meant given

-- lists of a round whose merged rows are those that the definition has, or a refusal that it has
abbrev pub MeetsRows : {K E : Type 0} → (K → K → Ordering) → Result (List (Row K)) E → Result (Round K) (Stop E) → Type 0
MeetsRows R meant (Ok round) = (rows : List (Row _)) → AreMerged R round.lists.items rows → meant ≡ Ok rows
MeetsRows R meant (Err (stop.Refused e)) = meant ≡ Err e
MeetsRows R meant (Err stop.Memory) = Unit {0}

-- a refusal has the status of inputs
abbrev pub IsOfInputs : {B : Type 0} → Result B (Stop Refusal) → Type 0
IsOfInputs (Ok b) = Unit {0}
IsOfInputs (Err (stop.Refused r)) = IsTrue (is_of_inputs r.status)
IsOfInputs (Err stop.Memory) = Unit {0}

-- what is made of rows that passed, or the fault
abbrev pub texted : {A K : Type 0} → (List (Row K) → A) → Result (List (Row K)) (Fault K) → Result A (Fault K)
texted text (Ok rows) = Ok (text rows)
texted text (Err f) = Err f
