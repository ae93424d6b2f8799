-- What the workers did over the stretches of some items makes the only round of an output.
use Rattle.std.proofs.Common.{◌≡◌, ℕ, Bool, List, Ok, Err, length, sym, subst}
use Rattle.std.specs.Prelude.{IfOk, Option}
use Rattle.std.specs.declared.result.Result.{Result}
use Rattle.std.specs.declared.cmp.Ordering.{Ordering}
use Rattle.mr_defs.specs.Emission.{Emission}
use Rattle.mr_defs.specs.Tasks.{Stretch}
use Rattle.mr_jobs.specs.Shares.{AreOnlyRound, HasShares, IsLawfulRound, task_at}
use Rattle.mr_jobs.specs.declared.phases.Round.{Round}
use Rattle.mr_jobs.specs.declared.output.Output.{Output}
use Rattle.mr_report.specs.Shown.{rounds_seen, workers_of}

-- the only round of an output, whose tasks are the stretches of some items
pub only_shares : {K V E F : Type 0} (R : K → K → Ordering) (inside : K → Bool) (workers : Option ℕ) (tasks : ℕ)
    (own emits : ℕ → List (Emission K V)) (items : List ℕ) (stretches : List Stretch) (round : Result (Round K) E) (result : Result Output F)
    → IfOk result (λ o. HasShares round o.rounds.items) → IfOk round
    (λ r. IsLawfulRound R inside workers tasks own (workers_of r.shares.items)) → tasks ≡ length stretches
    → ((t : ℕ) → own t ≡ task_at emits items stretches t)
    → IfOk result (λ o. AreOnlyRound R inside workers emits items stretches (rounds_seen o.rounds.items))
only_shares R inside workers tasks own emits items stretches (Ok r) (Ok o) has lawful count each =
    subst (λ rounds. AreOnlyRound R inside workers emits items stretches (rounds_seen rounds)) (sym has) (
      subst (λ n. IsLawfulRound R inside workers n (task_at emits items stretches) (workers_of r.shares.items)) count
          (subst (λ f. IsLawfulRound R inside workers tasks f (workers_of r.shares.items)) (λ i t. each t i) lawful),
      tt,
    )
only_shares R inside workers tasks own emits items stretches (Err e) (Ok o) has lawful count each = absurd has
only_shares R inside workers tasks own emits items stretches round (Err f) has lawful count each = tt
