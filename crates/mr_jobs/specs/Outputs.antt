-- What a job gives.
use Rattle.std.specs.Prelude.{ℕ, List, Option, IfOk}
use Rattle.std.specs.declared.cmp.Ordering.{Ordering}
use Rattle.std.specs.declared.result.Result.{Result}
use Rattle.mr_base.specs.declared.Stop.{Stop}
use Rattle.mr_defs.specs.Emission.{Row}
use Rattle.mr_defs.specs.declared.Fault.{Fault}
use Rattle.mr_jobfile.specs.Values.{SeenJob}
use Rattle.mr_jobs.specs.Ending.{ended_by}
use Rattle.mr_jobs.specs.Jobs.{job_meaning}
use Rattle.mr_jobs.specs.Meaning.{IsLawfulFor, Meaning, ending_of}
use Rattle.mr_jobs.specs.Meets.{IsOfInputs, MeetsRows, MeetsSeen, texted}
use Rattle.mr_jobs.specs.Shares.{HasShares}
use Rattle.mr_jobs.specs.declared.output.Output.{Output}
use Rattle.mr_jobs.specs.declared.phases.Round.{Round}
use Rattle.mr_jobs.specs.declared.refusal.Refusal.{Refusal}
use Rattle.mr_report.specs.Shown.{rounds_seen}

-- this text of the rows of a round, or the refusal of its fault, beside what the workers did in it
pub record IsWritten {K : Type 0} (R : K → K → Ordering) (shown : K → List ℕ) (text : List (Row K) → List ℕ)
    (round : Result (Round K) (Stop (Fault K))) (given : Result Output (Stop Refusal)) : Type 0 where
  pub ending : (meant : Result (List (Row K)) (Fault K)) → MeetsRows R meant round
      → MeetsSeen (λ o. o.text) (ended_by shown (texted text meant)) given
  pub of_inputs : IsOfInputs given
  pub shares : IfOk given (λ o. HasShares round o.rounds.items)

-- how a job of this meaning ends, beside what is told of so many workers, or of none
pub record IsOutputOf (j : SeenJob) (meaning : Meaning) (workers : Option ℕ) (given : Result Output (Stop Refusal)) : Type 0 where
  pub ending : MeetsSeen (λ o. o.text) (ending_of j meaning) given
  pub of_inputs : IsOfInputs given
  pub shares : IfOk given (λ o. IsLawfulFor j meaning workers (rounds_seen o.rounds.items))

-- of a job on its inputs
abbrev pub IsJobOutput : SeenJob → List (List ℕ) → Option ℕ → Result Output (Stop Refusal) → Type 0
IsJobOutput j inputs = IsOutputOf j (job_meaning j inputs)
