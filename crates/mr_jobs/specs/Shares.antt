-- What each worker did in a round, as a report says it, where one is asked for.
use Rattle.std.specs.Prelude.{◌≡◌, ℕ, Bool, List, [], ◌∷◌, Option, Some, None, All, Ok, Err, length, flat_map, slice_index_or}
use Rattle.std.specs.List.{range_with_len}
use Rattle.std.specs.List.Sorted.{IsPermutation}
use Rattle.std.specs.Ordering.{nat_cmp}
use Rattle.std.specs.declared.cmp.Ordering.{Ordering}
use Rattle.std.specs.declared.result.Result.{Result}
use Rattle.mr_base.specs.Spare.{Spared}
use Rattle.mr_defs.specs.Emission.{Emission}
use Rattle.mr_defs.specs.Rows.{cells_of}
use Rattle.mr_defs.specs.Tasks.{Stretch, spans_of, task_emissions}
use Rattle.mr_items.specs.Report.{Work}
use Rattle.mr_jobs.specs.declared.phases.Round.{Round}
use Rattle.mr_report.specs.declared.printing.Share.{Share}

module _ {K V : Type 0} (R : K → K → Ordering) (inside : K → Bool) where
  -- each worker has as many cells as its tasks emit different keys inside
  abbrev pub AreShares : (ℕ → List (Emission K V)) → List Work → Type 0
  AreShares emits works = All (λ w. w.1 ≡ cells_of R inside (flat_map emits w.0)) works

  -- so many workers took each of so many tasks once
  pub record HaveTaken (workers tasks : ℕ) (emits : ℕ → List (Emission K V)) (works : List Work) : Type 0 where
    pub count : length works ≡ workers
    pub once : IsPermutation (range_with_len 0 tasks) (flat_map (λ w. w.0) works)
    pub cells : AreShares emits works

  -- what is told of a round: that of so many workers, or nothing
  abbrev pub IsLawfulRound : Option ℕ → ℕ → (ℕ → List (Emission K V)) → List Work → Type 0
  IsLawfulRound (Some workers) tasks emits works = HaveTaken workers tasks emits works
  IsLawfulRound None tasks emits works = works ≡ []

  -- the rounds in these states, each of which takes so many tasks
  abbrev pub AreLawfulRounds : {S : Type 0} → Option ℕ → ℕ → (S → ℕ → List (Emission K V)) → List S → List (List Work) → Type 0
  AreLawfulRounds workers tasks emits [] [] = Unit {0}
  AreLawfulRounds workers tasks emits [] (works ∷ rounds) = ⊥
  AreLawfulRounds workers tasks emits (s ∷ states) [] = ⊥
  AreLawfulRounds workers tasks emits (s ∷ states) (works ∷ rounds) =
      IsLawfulRound workers tasks (emits s) works × AreLawfulRounds workers tasks emits states rounds

-- what the task with a number emits, where the items are cut into these stretches
abbrev pub task_at : {E : Type 0} → (ℕ → List E) → List ℕ → List Stretch → ℕ → List E
task_at emits items stretches t = task_emissions emits items (slice_index_or stretches t (0, 0))

-- what so many items emit
abbrev pub all_of : {E : Type 0} → (ℕ → List E) → ℕ → List E
all_of emits count = flat_map emits (range_with_len 0 count)

-- a round over the spans of so many items, which stand under number keys
abbrev pub IsSpanRound : {V : Type 0} → (ℕ → Bool) → Option ℕ → ℕ → ℕ → (ℕ → List (Emission ℕ V)) → List Work → Type 0
IsSpanRound inside workers chunk count emits =
    IsLawfulRound nat_cmp inside workers (length (spans_of chunk count)) (task_at emits (range_with_len 0 count) (spans_of chunk count))

-- the only round of a job whose items are cut into these stretches
abbrev pub AreOnlyRound : {K V : Type 0} → (K → K → Ordering) → (K → Bool) → Option ℕ → (ℕ → List (Emission K V)) → List ℕ → List Stretch
    → List (List Work) → Type 0
AreOnlyRound R inside workers emits items stretches = AreLawfulRounds R inside {S = Unit {0}} workers (length stretches)
    (λ s. task_at emits items stretches) (tt ∷ [])

-- the only round of an output is this one, which passed
abbrev pub HasShares : {K E : Type 0} → Result (Round K) E → List (Spared Share) → Type 0
HasShares (Ok round) rounds = rounds ≡ round.shares ∷ []
HasShares (Err e) rounds = ⊥
