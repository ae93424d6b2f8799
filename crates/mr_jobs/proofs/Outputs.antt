-- What a job gives by what it means.
use Rattle.std.proofs.Common.{◌≡◌, ℕ, ℤ, Bool, false, List, Option, length, flat_map, ap, sym, subst}
use Rattle.std.specs.Prelude.{IfOk, decimal}
use Rattle.std.specs.List.{range_with_len}
use Rattle.std.specs.Ordering.{nat_cmp}
use Rattle.std.specs.declared.cmp.Ordering.{Ordering}
use Rattle.std.specs.declared.result.Result.{Result}
use Rattle.mr_base.specs.declared.Stop.{Stop}
use Rattle.mr_capacity.specs.Folds.{folded}
use Rattle.mr_capacity.specs.declared.jobs.JobKind.{JobKind}
use Rattle.mr_defs.specs.Emission.{Answer, Emission, Row}
use Rattle.mr_defs.specs.Rounds.{round_of}
use Rattle.mr_defs.specs.Tasks.{Stretch, pieces_of, spans_of}
use Rattle.mr_defs.specs.declared.Fault.{Fault}
use Rattle.mr_items.specs.FaultLines.{shown_text}
use Rattle.mr_items.specs.Keys.{all_inside, byte_order}
use Rattle.mr_items.specs.Report.{Work}
use Rattle.mr_items.specs.Texts.{rows_text}
use Rattle.mr_jobfile.specs.Values.{SeenJob}
use Rattle.mr_jobs.specs.Ending.{ended_by}
use Rattle.mr_jobs.specs.Jobs.{meaning_of_kind}
use Rattle.mr_jobs.specs.Meaning.{IsLawfulFor, Meaning, byte_text, inside_of, is_shared, number_spans, number_text, once, places_of}
use Rattle.mr_jobs.specs.Meets.{IsOfInputs, MeetsRows, MeetsSeen, texted}
use Rattle.mr_jobs.specs.Outputs.{IsJobOutput, IsOutputOf, IsWritten}
use Rattle.mr_jobs.specs.RoundOf.{IsRoundOfTasks}
use Rattle.mr_jobs.specs.Shares.{AreLawfulRounds, AreOnlyRound, task_at}
use Rattle.mr_jobs.specs.declared.output.Output.{Output}
use Rattle.mr_jobs.specs.declared.phases.Round.{Round}
use Rattle.mr_jobs.specs.declared.refusal.Refusal.{Refusal}
use Rattle.mr_jobs.proofs.Merging.{weaker}
use Rattle.mr_jobs.proofs.OneRound.{one_round, only_state}
use Rattle.mr_jobs.proofs.Reports.{only_shares}
use Rattle.mr_report.specs.Shown.{rounds_seen}
use Rattle.mr_split.specs.Pieces.{boundary_of}
use Rattle.mr_split.specs.declared.boundary.Boundary.{Boundary}

module _ (j : SeenJob) (workers : Option ℕ) (result : Result Output (Stop Refusal)) where
  -- a job means what its kind does
  pub of_kind : (inputs : List (List ℕ)) (k : JobKind) → j.job ≡ k → IsOutputOf j (meaning_of_kind j inputs k) workers result
      → IsJobOutput j inputs workers result
  of_kind inputs k is = subst (λ k. IsOutputOf j (meaning_of_kind j inputs k) workers result) (sym is)

  module _ {K V : Type 0} (R : K → K → Ordering) (shown : K → List ℕ) (inside : K → Bool) (shared : Bool) (fold : List V → Option Answer)
      (text : List (Row K) → List ℕ) (items : List ℕ) (stretches : List Stretch) (emits : ℕ → List (Emission K V)) where
    abbrev all : List (Emission K V)
    all = flat_map emits items

    abbrev AreOver : List (List Work) → Type 0
    AreOver = AreOnlyRound R inside workers emits items stretches

    abbrev AreRounds : List (Unit {0}) → List (List Work) → Type 0
    AreRounds = AreLawfulRounds R inside workers (length stretches) (λ s. task_at emits items stretches)

    abbrev meant : Meaning
    meant = once R shown inside shared fold text items stretches emits

    -- what the workers did in the only round
    pub lawful : (rounds : List (List Work)) → AreOver rounds → IsLawfulFor j meant workers rounds
    lawful rounds = subst (λ states. AreRounds states rounds) (sym (only_state R inside shared fold text all))

    pub only_one : (rounds : List (List Work)) → IsLawfulFor j meant workers rounds → AreOver rounds
    only_one rounds = subst (λ states. AreRounds states rounds) (only_state R inside shared fold text all)

    -- an output that has the text of the rows of the only round, or the refusal of its fault
    pub once_output : MeetsSeen (λ o. o.text) (ended_by shown (texted text (round_of R inside shared fold all))) result → IsOfInputs result
        → IfOk result (λ o. AreOver (rounds_seen o.rounds.items)) → IsOutputOf j meant workers result
    once_output ending of_inputs shares = record {
      ending = subst (λ e. MeetsSeen {B = Output} (λ o. o.text) e result) (ap (ended_by shown) (one_round R inside shared fold text all))
          ending;
      of_inputs = of_inputs;
      shares = weaker result (λ o. AreOver (rounds_seen o.rounds.items)) (λ o. IsLawfulFor j meant workers (rounds_seen o.rounds.items))
          (λ o. lawful (rounds_seen o.rounds.items)) shares;
    }

    -- a round of tasks that are these stretches, and what is written of it
    pub output_of : (tasks : ℕ) (own : ℕ → List (Emission K V)) (round : Result (Round K) (Stop (Fault K)))
        → tasks ≡ length stretches → ((t : ℕ) → own t ≡ task_at emits items stretches t)
        → flat_map own (range_with_len 0 tasks) ≡ all → IsRoundOfTasks R inside shared fold workers tasks own round
        → IsWritten R shown text round result → IsOutputOf j meant workers result
    output_of tasks own round count each whole is written = once_output
        (written.ending (round_of R inside shared fold all)
        (subst (λ es. MeetsRows R (round_of R inside shared fold es) round) whole is.rows))
        written.of_inputs
        (only_shares R inside workers tasks own emits items stretches round result written.shares is.shares count each)

  abbrev Gives : Meaning → Type 0
  Gives meaning = IsOutputOf j meaning workers result

  module _ {K : Type 0} (R : K → K → Ordering) (shown : K → List ℕ) (inside : K → Bool) (shared : Bool) (fold : List ℤ → Option Answer)
      (text : List (Row K) → List ℕ) (cut : Boundary) (emits : List ℕ → ℕ → List (Emission K ℤ)) where
    abbrev over : List ℕ → List Stretch → Meaning
    over bytes pieces = once R shown inside shared fold text (places_of cut bytes) pieces (emits bytes)

    over_pieces : (tasks : ℕ) (own : ℕ → List (Emission K ℤ)) (round : Result (Round K) (Stop (Fault K))) (pieces : List Stretch)
        (input bytes : List ℕ) → pieces ≡ pieces_of (boundary_of cut input) j.chunk (length input) → input ≡ bytes → tasks ≡ length pieces
        → ((t : ℕ) → own t ≡ task_at (emits input) (places_of cut input) pieces t)
        → flat_map own (range_with_len 0 tasks) ≡ flat_map (emits input) (places_of cut input)
        → IsRoundOfTasks R inside shared fold workers tasks own round → IsWritten R shown text round result
        → Gives (over bytes (pieces_of (boundary_of cut bytes) j.chunk (length bytes)))
    over_pieces tasks own round pieces input bytes exact same count each whole is written =
        subst (λ b. Gives (over b (pieces_of (boundary_of cut b) j.chunk (length b)))) same
        (subst (λ ps. Gives (over input ps)) exact
        (output_of R shown inside shared fold text (places_of cut input) pieces (emits input) tasks own round count each whole is written))

  -- one round over the pieces of a text, by byte keys
  pub bytes_output : (text : List (Row (List ℕ)) → List ℕ) (cut : Boundary) (emits : List ℕ → ℕ → List (Emission (List ℕ) ℤ)) (tasks : ℕ)
      (own : ℕ → List (Emission (List ℕ) ℤ)) (round : Result (Round (List ℕ)) (Stop (Fault (List ℕ)))) (pieces : List Stretch)
      (input bytes : List ℕ) → pieces ≡ pieces_of (boundary_of cut input) j.chunk (length input) → input ≡ bytes → tasks ≡ length pieces
      → ((t : ℕ) → own t ≡ task_at (emits input) (places_of cut input) pieces t)
      → flat_map own (range_with_len 0 tasks) ≡ flat_map (emits input) (places_of cut input)
      → IsRoundOfTasks byte_order all_inside false (folded j.combiner j.reducer) workers tasks own round
      → IsWritten byte_order shown_text text round result → Gives (byte_text j text cut emits bytes)
  bytes_output text cut emits = over_pieces byte_order shown_text all_inside false (folded j.combiner j.reducer) text cut emits

  -- and by number keys
  pub numbers_output : (cut : Boundary) (emits : List ℕ → ℕ → List (Emission ℕ ℤ)) (tasks : ℕ)
      (own : ℕ → List (Emission ℕ ℤ)) (round : Result (Round ℕ) (Stop (Fault ℕ))) (pieces : List Stretch)
      (input bytes : List ℕ) → pieces ≡ pieces_of (boundary_of cut input) j.chunk (length input) → input ≡ bytes → tasks ≡ length pieces
      → ((t : ℕ) → own t ≡ task_at (emits input) (places_of cut input) pieces t)
      → flat_map own (range_with_len 0 tasks) ≡ flat_map (emits input) (places_of cut input)
      → IsRoundOfTasks nat_cmp (inside_of j.container j.capacity) (is_shared j.container) (folded j.combiner j.reducer) workers tasks own
      round
      → IsWritten nat_cmp decimal (rows_text decimal) round result → Gives (number_text j cut emits bytes)
  numbers_output cut emits = over_pieces nat_cmp decimal (inside_of j.container j.capacity) (is_shared j.container)
      (folded j.combiner j.reducer) (rows_text decimal) cut emits

  -- one round over spans of so many items
  pub spans_output : (text : List (Row ℕ) → List ℕ) (count : ℕ) (emits : ℕ → List (Emission ℕ ℤ)) (tasks : ℕ)
      (own : ℕ → List (Emission ℕ ℤ)) (round : Result (Round ℕ) (Stop (Fault ℕ))) (spans : List Stretch)
      → spans ≡ spans_of j.chunk count → tasks ≡ length spans
      → ((t : ℕ) → own t ≡ task_at emits (range_with_len 0 count) spans t)
      → flat_map own (range_with_len 0 tasks) ≡ flat_map emits (range_with_len 0 count)
      → IsRoundOfTasks nat_cmp (inside_of j.container j.capacity) (is_shared j.container) (folded j.combiner j.reducer) workers tasks own
      round
      → IsWritten nat_cmp decimal text round result → Gives (number_spans j text count emits)
  spans_output text count emits tasks own round spans exact count_is each whole is written =
      let inside = inside_of j.container j.capacity in
      let shared = is_shared j.container in
      let fold = folded j.combiner j.reducer in
      subst (λ cut. Gives (once nat_cmp decimal inside shared fold text (range_with_len 0 count) cut emits)) exact
      (output_of nat_cmp decimal inside shared fold text (range_with_len 0 count) spans emits tasks own round
      count_is each whole is written)
