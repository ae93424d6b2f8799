-- What the workers did in a round whose tasks are spans.
use Rattle.std.proofs.Common.{◌≡◌, ℕ, Bool, List, Option, Ok, Err, length, flat_map, subst}
use Rattle.std.specs.Prelude.{IfOk}
use Rattle.std.specs.List.{range_with_len}
use Rattle.std.specs.Ordering.{nat_cmp}
use Rattle.std.specs.declared.result.Result.{Result}
use Rattle.std.specs.declared.cmp.Ordering.{Ordering}
use Rattle.mr_base.specs.declared.Stop.{Stop}
use Rattle.mr_defs.specs.Emission.{Answer, Emission}
use Rattle.mr_defs.specs.Rounds.{round_of}
use Rattle.mr_defs.specs.Tasks.{Stretch, spans_of}
use Rattle.mr_defs.specs.declared.Fault.{Fault}
use Rattle.mr_jobs.specs.Meets.{MeetsRows}
use Rattle.mr_jobs.specs.RoundOf.{IsRoundOfSpans, IsRoundOfTasks}
use Rattle.mr_jobs.specs.Shares.{IsLawfulRound, task_at}
use Rattle.mr_jobs.specs.declared.phases.Round.{Round}
use Rattle.mr_report.specs.Shown.{workers_of}

over_stretches : {K V E : Type 0} (R : K → K → Ordering) (inside : K → Bool) (workers : Option ℕ) (tasks : ℕ)
    (own emits : ℕ → List (Emission K V)) (items : List ℕ) (stretches cut : List Stretch) (round : Result (Round K) E)
    → IfOk round (λ r. IsLawfulRound R inside workers tasks own (workers_of r.shares.items)) → tasks ≡ length stretches
    → ((t : ℕ) → own t ≡ task_at emits items stretches t) → stretches ≡ cut
    → IfOk round (λ r. IsLawfulRound R inside workers (length cut) (task_at emits items cut) (workers_of r.shares.items))
over_stretches R inside workers tasks own emits items stretches cut (Ok r) lawful count each same =
    subst (λ ps. IsLawfulRound R inside workers (length ps) (task_at emits items ps) (workers_of r.shares.items)) same
    (subst (λ n. IsLawfulRound R inside workers n (task_at emits items stretches) (workers_of r.shares.items)) count
    (subst (λ f. IsLawfulRound R inside workers tasks f (workers_of r.shares.items)) (λ i t. each t i) lawful))
over_stretches R inside workers tasks own emits items stretches cut (Err e) lawful count each same = tt

-- a round whose tasks are spans of so many items, which together emit these emissions
pub over_spans : {V : Type 0} (inside : ℕ → Bool) (shared alike : Bool) (folded : List V → Option Answer) (workers : Option ℕ)
    (tasks chunk count : ℕ) (own emits : ℕ → List (Emission ℕ V)) (spans : List Stretch) (round : Result (Round ℕ) (Stop (Fault ℕ)))
    → IsRoundOfTasks nat_cmp inside shared folded workers tasks own round → shared ≡ alike
    → flat_map own (range_with_len 0 tasks) ≡ flat_map emits (range_with_len 0 count) → tasks ≡ length spans
    → ((t : ℕ) → own t ≡ task_at emits (range_with_len 0 count) spans t) → spans ≡ spans_of chunk count
    → IsRoundOfSpans inside alike folded workers chunk count emits round
over_spans inside shared alike folded workers tasks chunk count own emits spans round is same whole tasks_are each cut = record {
  merge = is.merge;
  rows = subst (λ b. MeetsRows nat_cmp (round_of nat_cmp inside b folded (flat_map emits (range_with_len 0 count))) round) same
      (subst (λ l. MeetsRows nat_cmp (round_of nat_cmp inside shared folded l) round) whole is.rows);
  shares = over_stretches nat_cmp inside workers tasks own emits (range_with_len 0 count) spans (spans_of chunk count) round is.shares
      tasks_are each cut;
}
