-- What a round gives.
use Rattle.std.specs.Prelude.{ℕ, Bool, List, Option, IfOk, length, flat_map}
use Rattle.std.specs.List.{range_with_len}
use Rattle.std.specs.Ordering.{nat_cmp}
use Rattle.std.specs.declared.cmp.Ordering.{Ordering}
use Rattle.std.specs.declared.result.Result.{Result}
use Rattle.mr_base.specs.declared.Stop.{Stop}
use Rattle.mr_defs.specs.Emission.{Answer, Emission}
use Rattle.mr_defs.specs.Rounds.{round_of}
use Rattle.mr_defs.specs.Tasks.{spans_of}
use Rattle.mr_defs.specs.declared.Fault.{Fault}
use Rattle.mr_jobs.specs.Meets.{MeetsRows}
use Rattle.mr_jobs.specs.Shares.{IsLawfulRound, all_of, task_at}
use Rattle.mr_jobs.specs.declared.phases.Round.{Round}
use Rattle.mr_merge.specs.Merged.{CanMerge}
use Rattle.mr_report.specs.Shown.{workers_of}

-- lists that can be merged, whose merged rows are those of what was emitted, or its first fault; and what is told of so many workers,
-- who took each of so many tasks once, or of none
pub record IsRoundOf {K V : Type 0} (R : K → K → Ordering) (inside : K → Bool) (shared : Bool) (folded : List V → Option Answer)
    (workers : Option ℕ) (tasks : ℕ) (emits : ℕ → List (Emission K V)) (emissions : List (Emission K V))
    (given : Result (Round K) (Stop (Fault K))) : Type 0 where
  pub merge : IfOk given (λ r. CanMerge R r.lists.items)
  pub rows : MeetsRows R (round_of R inside shared folded emissions) given
  pub shares : IfOk given (λ r. IsLawfulRound R inside workers tasks emits (workers_of r.shares.items))

-- the round of what all tasks emit
abbrev pub IsRoundOfTasks : {K V : Type 0} → (K → K → Ordering) → (K → Bool) → Bool → (List V → Option Answer) → Option ℕ → ℕ
    → (ℕ → List (Emission K V)) → Result (Round K) (Stop (Fault K)) → Type 0
IsRoundOfTasks R inside shared folded workers tasks emits =
    IsRoundOf R inside shared folded workers tasks emits (flat_map emits (range_with_len 0 tasks))

-- the round of what so many items emit under number keys, in spans
abbrev pub IsRoundOfSpans : {V : Type 0} → (ℕ → Bool) → Bool → (List V → Option Answer) → Option ℕ → ℕ → ℕ → (ℕ → List (Emission ℕ V))
    → Result (Round ℕ) (Stop (Fault ℕ)) → Type 0
IsRoundOfSpans inside shared folded workers chunk count emits =
    IsRoundOf nat_cmp inside shared folded workers (length (spans_of chunk count))
    (task_at emits (range_with_len 0 count) (spans_of chunk count)) (all_of emits count)
