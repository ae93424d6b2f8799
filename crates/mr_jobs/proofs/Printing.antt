-- A lawful report has few rounds, and tells of few workers in each.
use Rattle.std.proofs.Common.{◌≡◌, ℕ, zero, suc, ◌^◌, ◌<◌, ◌≤◌, Bool, true, false, List, [], ◌∷◌, Ok, Err}
use Rattle.std.proofs.Common.{Option, Some, None, length, ap, arith, if◌then◌else◌}
use Rattle.std.specs.Prelude.{All, IfOk, IfSome}
use Rattle.std.specs.List.{AllByRecursion}
use Rattle.std.specs.declared.result.Result.{Result}
use Rattle.std.specs.declared.cmp.Ordering.{Ordering}
use Rattle.std.proofs.lemmas.Bool.Decides.{nat_tests}
use Rattle.std.proofs.lemmas.List.{length-map}
use Rattle.std.proofs.lemmas.List.Elements.{All-cons, All-nil}
use Rattle.mr_base.specs.Spare.{Spared}
use Rattle.mr_defs.specs.Emission.{Emission, Answer, Row}
use Rattle.mr_defs.specs.Rounds.{Next, again, ended, round_of, states_of, states_after, states_of_next}
use Rattle.mr_defs.specs.declared.Fault.{Fault}
use Rattle.mr_items.specs.Report.{Work}
use Rattle.mr_jobfile.specs.Ranges.{is_count_of, most_rounds}
use Rattle.mr_jobfile.specs.Values.{SeenJob}
use Rattle.mr_jobs.specs.Jobs.{IsLawfulReport, job_meaning}
use Rattle.mr_jobs.specs.Meaning.{IsLawfulFor, Meaning, Most, all_emitted, most_of}
use Rattle.mr_jobs.specs.Meaning as meaning
use Rattle.mr_jobs.specs.Printable.{IsPrintable}
use Rattle.mr_jobs.specs.Reported.{reported}
use Rattle.mr_jobs.specs.Shares.{AreLawfulRounds, IsLawfulRound, task_at}
use Rattle.mr_jobs.specs.declared.output.Output.{Output}
use Rattle.mr_jobs.specs.declared.workers.Workers.{Workers}
use Rattle.mr_report.specs.Shown.{rounds_seen, work_of, workers_of}
use Rattle.mr_report.specs.declared.printing.Share.{Share}

-- no more rounds than this, each of at most 32 workers
abbrev IsSmall : ℕ → List (List Work) → Type 0
IsSmall most rounds = (length rounds ≤ most) × AllByRecursion (λ works. length works ≤ 32) rounds

-- at most 32 workers are told of, or none
abbrev pub AreFew : Option ℕ → Type 0
AreFew workers = IfSome workers (λ n. n ≤ 32)

pub few_reported : {T G : Type 0} (workers : Workers T G) → workers.count ≤ 32 → AreFew (reported workers)
few_reported workers few = by workers.reports
  where
    by : (asked : Bool) → AreFew (if asked then Some workers.count else None)
    by true = few
    by false = tt

module _ {K V : Type 0} (R : K → K → Ordering) (inside : K → Bool) where
  few_told : (workers : Option ℕ) (tasks : ℕ) (emits : ℕ → List (Emission K V)) (works : List Work) → AreFew workers
      → IsLawfulRound R inside workers tasks emits works → length works ≤ 32
  few_told (Some n) tasks emits works few taken = omega (arith, few, taken.count)
  few_told None tasks emits works few none = let same : length works ≡ 0 = ap length none in omega (arith, same)

  module _ {S : Type 0} (workers : Option ℕ) (tasks : ℕ) (emits : S → ℕ → List (Emission K V)) (few : AreFew workers) where
    as_many : (states : List S) (rounds : List (List Work)) → AreLawfulRounds R inside workers tasks emits states rounds
        → IsSmall (length states) rounds
    as_many [] [] h = (omega arith, tt)
    as_many [] (works ∷ rounds) h = absurd h
    as_many (s ∷ states) [] h = absurd h
    as_many (s ∷ states) (works ∷ rounds) h =
        let rest = as_many states rounds h.1 in (omega (arith, rest.0), (few_told workers tasks (emits s) works few h.0, rest.1))

more : (m n : ℕ) (rounds : List (List Work)) → m ≤ n → IsSmall m rounds → IsSmall n rounds
more m n rounds le small = (omega (arith, le, small.0), small.1)

-- no more states than the number that bounds them
module _ {K V S : Type 0} (R : K → K → Ordering) (inside : K → Bool) (shared : Bool) (folded : List V → Option Answer)
    (emissions : S → List (Emission K V)) (next : S → List (Row K) → Next S) where
  after_next : (n : ℕ) (rest : S → List S) → ((s : S) → length (rest s) ≤ n) → (x : Next S)
      → length (states_of_next R inside shared folded emissions next rest x) ≤ n
  after_next n rest few (again s) = few s
  after_next n rest few (ended text) = omega arith

  after_round : (n : ℕ) (rest : S → List S) → ((s : S) → length (rest s) ≤ n) → (s : S) (r : Result (List (Row K)) (Fault K))
      → length (states_after R inside shared folded emissions next rest s r) ≤ n
  after_round n rest few s (Ok rows) = after_next n rest few (next s rows)
  after_round n rest few s (Err f) = omega arith

  few_states : (n : ℕ) (s : S) → length (states_of R inside shared folded emissions next n s) ≤ n
  few_states zero s = omega arith
  few_states (suc n) s = let rest = after_round n (states_of R inside shared folded emissions next n) (few_states n) s
      (round_of R inside shared folded (emissions s)) in omega (arith, rest)

module _ (j : SeenJob) (workers : Option ℕ) (few : j.rounds ≤ most_rounds) (few_workers : AreFew workers) (works : List (List Work)) where
  few_most : (m : Most) → most_of j m ≤ most_rounds
  few_most meaning.one = omega arith
  few_most meaning.two = omega arith
  few_most meaning.told = few

  small : (m : Meaning) → IsLawfulFor j m workers works → IsSmall most_rounds works
  small (meaning.rounds m) h =
      let emitted = all_emitted j m in
      let states = states_of m.order m.inside m.shared m.fold emitted m.next (most_of j m.most) m.first in
      more (most_of j m.most) most_rounds works (few_most m.most)
      (more (length states) (most_of j m.most) works
      (few_states m.order m.inside m.shared m.fold emitted m.next (most_of j m.most) m.first)
      (as_many m.order m.inside workers (length m.tasks) (λ s. task_at (m.emits s) m.items m.tasks) few_workers states works h))
  small (meaning.refusal r) h = absurd h

each_printable : (rounds : List (Spared Share)) → AllByRecursion (λ works. length works ≤ 32) (rounds_seen rounds)
    → All (λ round. length round.items < 2 ^ 32) rounds
each_printable [] h = All-nil (λ round. length round.items < 2 ^ 32)
each_printable (r ∷ rs) h =
    let count = length-map r.items work_of in
    All-cons (λ round. length round.items < 2 ^ 32) r rs (omega (arith, count, h.0)) (each_printable rs h.1)

few_rounds : (has : Bool) (n : ℕ) → is_count_of has most_rounds n ≡ true → n ≤ most_rounds
few_rounds true n h = grind (arith, nat_tests, h)
few_rounds false n h = grind (arith, nat_tests, h)

-- the report of a job by 32 workers at most can be printed
pub printable : {E : Type 0} (j : SeenJob) (inputs : List (List ℕ)) (workers : Option ℕ) (has : Bool) → AreFew workers
    → is_count_of has most_rounds j.rounds ≡ true → (result : Result Output E)
    → IfOk result (λ o. IsLawfulReport j inputs workers (rounds_seen o.rounds.items)) → IfOk result IsPrintable
printable j inputs workers has few some (Ok o) lawful =
    let is = small j workers (few_rounds has j.rounds some) few (rounds_seen o.rounds.items) (job_meaning j inputs) lawful in
    let count = length-map o.rounds.items (λ round. workers_of round.items) in
    (omega (arith, is.0, count), each_printable o.rounds.items is.1)
printable j inputs workers has few some (Err e) lawful = tt
