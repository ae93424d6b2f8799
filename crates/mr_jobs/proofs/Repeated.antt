-- Rounds that are run one after the other.
use Rattle.std.proofs.Common.{◌≡◌, ◌<◌, ◌≤◌, ◌+◌, ◌-◌, ◌∙◌, ℕ, suc, Bool, List, [], ◌∷◌, ◌++◌, Option, Ok, Err, append-nil}
use Rattle.std.proofs.Common.{append_assoc, sym, ap, subst, arith}
use Rattle.std.specs.declared.result.Result.{Result}
use Rattle.std.specs.declared.cmp.Ordering.{Ordering}
use Rattle.mr_base.specs.Spare.{Spared}
use Rattle.mr_base.specs.declared.Stop.{Stop}
use Rattle.mr_base.specs.declared.Stop.TheVariants as stop
use Rattle.mr_defs.specs.Emission.{Emission, Answer, Row}
use Rattle.mr_defs.specs.Rounds.{Next, again, ended, round_of, rounds_of, states_of, text_after, text_of_next, states_after, states_of_next}
use Rattle.mr_defs.specs.declared.Fault.{Fault}
use Rattle.mr_items.specs.Report.{Work}
use Rattle.mr_jobs.specs.Ending.{ended_by}
use Rattle.mr_jobs.specs.Meets.{MeetsSeen, texted}
use Rattle.mr_jobs.specs.Sequels.{next_of}
use Rattle.mr_jobs.specs.Shares.{AreLawfulRounds, IsLawfulRound}
use Rattle.mr_jobs.specs.declared.output.Output.{Output}
use Rattle.mr_jobs.specs.declared.refusal.Refusal.{Refusal}
use Rattle.mr_jobs.specs.declared.rounds.Sequel.{Sequel}
use Rattle.mr_report.specs.declared.printing.Share.{Share}

module _ {K V S : Type 0} (R : K → K → Ordering) (inside : K → Bool) (shared : Bool) (folded : List V → Option Answer)
    (emissions : S → List (Emission K V)) (next : S → List (Row K) → Next S) where
  abbrev Round : Type 0
  Round = Result (List (Row K)) (Fault K)

  abbrev round : S → Round
  round s = round_of R inside shared folded (emissions s)

  abbrev rest : ℕ → S → Result (List ℕ) (Fault K)
  rest = rounds_of R inside shared folded emissions next

  abbrev states : ℕ → S → List S
  states = states_of R inside shared folded emissions next

  module _ (shown : K → List ℕ) (n : ℕ) (s : S) where
    -- a round leads to another, to the text, or to its fault
    again_text : (t : S) → ended_by shown (texted (next s) (round s)) ≡ Ok (again t) → rest (suc n) s ≡ rest n t
    again_text t = by (round s)
      where
        by : (r : Round) → ended_by shown (texted (next s) r) ≡ Ok (again t)
            → text_after R inside shared folded emissions next (rest n) s r ≡ rest n t
        by (Ok rows) e = let same : next s rows ≡ again t = cc in ap (text_of_next R inside shared folded emissions next (rest n)) same
        by (Err f) e = absurd (cc)

    again_states : (t : S) → ended_by shown (texted (next s) (round s)) ≡ Ok (again t) → states (suc n) s ≡ s ∷ states n t
    again_states t = by (round s)
      where
        by : (r : Round) → ended_by shown (texted (next s) r) ≡ Ok (again t)
            → s ∷ states_after R inside shared folded emissions next (states n) s r ≡ s ∷ states n t
        by (Ok rows) e = let same : next s rows ≡ again t = cc in
            ap (λ x. s ∷ states_of_next R inside shared folded emissions next (states n) x) same
        by (Err f) e = absurd (cc)

    ended_text : (text : List ℕ) → ended_by shown (texted (next s) (round s)) ≡ Ok (ended text) → ended_by shown (rest (suc n) s) ≡ Ok text
    ended_text text = by (round s)
      where
        by : (r : Round) → ended_by shown (texted (next s) r) ≡ Ok (ended text)
            → ended_by shown (text_after R inside shared folded emissions next (rest n) s r) ≡ Ok text
        by (Ok rows) e = let same : next s rows ≡ ended text = cc in
            ap (λ x. ended_by shown (text_of_next R inside shared folded emissions next (rest n) x)) same
        by (Err f) e = absurd (cc)

    ended_states : (text : List ℕ) → ended_by shown (texted (next s) (round s)) ≡ Ok (ended text) → states (suc n) s ≡ s ∷ []
    ended_states text = by (round s)
      where
        by : (r : Round) → ended_by shown (texted (next s) r) ≡ Ok (ended text)
            → s ∷ states_after R inside shared folded emissions next (states n) s r ≡ s ∷ []
        by (Ok rows) e = let same : next s rows ≡ ended text = cc in
            ap (λ x. s ∷ states_of_next R inside shared folded emissions next (states n) x) same
        by (Err f) e = absurd (cc)

    faulty : (refusal : Refusal) → ended_by shown (texted (next s) (round s)) ≡ Err refusal → ended_by shown (rest (suc n) s) ≡ Err refusal
    faulty refusal = by (round s)
      where
        by : (r : Round) → ended_by shown (texted (next s) r) ≡ Err refusal
            → ended_by shown (text_after R inside shared folded emissions next (rest n) s r) ≡ Err refusal
        by (Ok rows) e = absurd (cc)
        by (Err f) e = cc

  module _ (workers : Option ℕ) (tasks : ℕ) (emits : S → ℕ → List (Emission K V)) (most : ℕ) (first : S) where
    abbrev AreLawful : List S → List (List Work) → Type 0
    AreLawful = AreLawfulRounds R inside workers tasks emits

    -- so many rounds were run, the next has this state, and this is what the workers did
    pub record HaveRun (done : ℕ) (s : S) (report : List (List Work)) : Type 0 where
      pub ending : rest most first ≡ rest (most - done) s
      pub shares : (more : List (List Work)) → AreLawful (states (most - done) s) more → AreLawful (states most first) (report ++ more)

    pub none_run : HaveRun 0 first []
    none_run =
        let all : most - 0 ≡ most = omega arith in
        record {
          ending = ap (λ n. rest n first) (sym all);
          shares =
              λ more lawful. subst (λ n. AreLawful (states n first) more) all lawful;
        }

    module _ (done : ℕ) (s : S) (report : List (List Work)) (run : HaveRun done s report) where
      -- after all of them the text is empty
      pub all_text : most ≤ done → rest most first ≡ Ok []
      all_text end = let none : most - done ≡ 0 = omega (arith, end) in run.ending ∙ ap (λ n. rest n s) none

      pub all_shares : most ≤ done → AreLawful (states most first) report
      all_shares end =
          let none : most - done ≡ 0 = omega (arith, end) in
          subst (AreLawful (states most first)) (append-nil report) (run.shares [] (subst (λ n. AreLawful (states n s) []) (sym none) tt))

      module _ (shown : K → List ℕ) (goes : done < most) where
        abbrev left : ℕ
        left = most - (done + 1)

        one_less : most - done ≡ suc left
        one_less = omega (arith, goes)

        pub one_more : (t : S) (works : List Work) (after : List (List Work)) → after ≡ report ++ works ∷ []
            → ended_by shown (texted (next s) (round s)) ≡ Ok (again t)
            → IsLawfulRound R inside workers tasks (emits s) works → HaveRun (done + 1) t after
        one_more t works after added led lawful = record {
          ending = run.ending ∙ ap (λ n. rest n s) one_less ∙ again_text shown left s t led;
          shares = λ more further.
              subst (AreLawful (states most first)) (sym (append_assoc report (works ∷ []) more) ∙ ap (λ l. l ++ more) (sym added))
              (run.shares (works ∷ more) (subst (λ ss. AreLawful ss (works ∷ more))
              (sym (ap (λ n. states n s) one_less ∙ again_states shown left s t led)) (lawful, further)));
        }

        pub last_text : (text : List ℕ) → ended_by shown (texted (next s) (round s)) ≡ Ok (ended text)
            → ended_by shown (rest most first) ≡ Ok text
        last_text text led = ap (ended_by shown) (run.ending ∙ ap (λ n. rest n s) one_less) ∙ ended_text shown left s text led

        pub last_shares : (text : List ℕ) (works : List Work) (after : List (List Work)) → after ≡ report ++ works ∷ []
            → ended_by shown (texted (next s) (round s)) ≡ Ok (ended text)
            → IsLawfulRound R inside workers tasks (emits s) works → AreLawful (states most first) after
        last_shares text works after added led lawful =
            subst (AreLawful (states most first)) (sym added)
            (run.shares (works ∷ []) (subst (λ ss. AreLawful ss (works ∷ []))
            (sym (ap (λ n. states n s) one_less ∙ ended_states shown left s text led)) (lawful, tt)))

        last_fault : (refusal : Refusal) → ended_by shown (texted (next s) (round s)) ≡ Err refusal
            → ended_by shown (rest most first) ≡ Err refusal
        last_fault refusal led = ap (ended_by shown) (run.ending ∙ ap (λ n. rest n s) one_less) ∙ faulty shown left s refusal led

        -- or the round was stopped
        pub last_stop : (why : Stop Refusal) → MeetsSeen {B = Sequel S × Spared Share} (λ o. next_of o.0)
            (ended_by shown (texted (next s) (round s))) (Err why)
            → MeetsSeen {B = Output} (λ o. o.text) (ended_by shown (rest most first)) (Err why)
        last_stop (stop.Refused refusal) led = last_fault refusal led
        last_stop stop.Memory led = tt
