-- The count of the words of a generated text.
use Rattle.std.proofs.Common.{◌≡◌, ℕ, List, [], ◌∷◌, Option, false, length, subst, sym}
use Rattle.std.specs.Prelude.{IfOk}
use Rattle.std.specs.declared.result.Result.{Result}
use Rattle.mr_base.specs.declared.Stop.{Stop}
use Rattle.mr_capacity.specs.Folds.{folded}
use Rattle.mr_capacity.specs.declared.jobs.JobKind.TheVariants as kind
use Rattle.mr_defs.specs.Tasks.{pieces_of}
use Rattle.mr_items.specs.FaultLines.{shown_text}
use Rattle.mr_items.specs.Keys.{all_inside, byte_order}
use Rattle.mr_items.specs.Report.{Work}
use Rattle.mr_items.specs.Texts.{rows_text}
use Rattle.mr_items.specs.WordCount.{word_count_emits}
use Rattle.mr_items.specs.Words.{is_word_boundary, word_places}
use Rattle.mr_jobfile.specs.Values.{SeenJob}
use Rattle.mr_jobs.specs.Generated.{counted_words, written_text}
use Rattle.mr_jobs.specs.Jobs.{IsLawfulReport, meaning_of_kind}
use Rattle.mr_jobs.specs.Meaning.{IsLawfulFor}
use Rattle.mr_jobs.specs.Outputs.{IsOutputOf}
use Rattle.mr_jobs.specs.declared.output.Output.{Output}
use Rattle.mr_jobs.specs.declared.output.Written.TheVariants as written
use Rattle.mr_jobs.specs.declared.refusal.Refusal.{Refusal}
use Rattle.mr_jobs.proofs.Merging.{weaker}
use Rattle.mr_jobs.proofs.Outputs.{lawful, only_one}
use Rattle.mr_report.specs.Shown.{rounds_seen}

module _ (j : SeenJob) (workers : Option ℕ) (result : Result Output (Stop Refusal)) where
  -- its bytes are those of the text
  pub summed_rows : (input text : List ℕ) → input ≡ text
      → IsOutputOf j (counted_words j (written.Summary (length input)) input) workers result
      → IsOutputOf j (counted_words j (written.Summary (length text)) text) workers result
  summed_rows input text same = subst (λ bytes. IsOutputOf j (counted_words j (written.Summary (length bytes)) bytes) workers result) same

  -- what is written of the rows doesn't change what the workers did
  same_rounds : (text : List ℕ) (rounds : List (List Work))
      → IsLawfulFor j (counted_words j (written.Summary (length text)) text) workers rounds
      → IsLawfulFor j (meaning_of_kind j (text ∷ []) kind.WordCount) workers rounds
  same_rounds text rounds h =
      let fold = folded j.combiner j.reducer in
      let pieces = pieces_of (is_word_boundary text) j.chunk (length text) in
      lawful j workers result byte_order shown_text all_inside false fold (rows_text (λ key. key)) (word_places text) pieces
      (word_count_emits text) rounds
      (only_one j workers result byte_order shown_text all_inside false fold (written_text (written.Summary (length text)) (λ key. key))
      (word_places text) pieces (word_count_emits text) rounds h)

  pub of_rows : (text : List ℕ) → j.job ≡ kind.WordCount
      → IsOutputOf j (counted_words j (written.Summary (length text)) text) workers result
      → IfOk result (λ o. IsLawfulReport j (text ∷ []) workers (rounds_seen o.rounds.items))
  of_rows text is out =
      subst (λ k. IfOk result (λ o. IsLawfulFor j (meaning_of_kind j (text ∷ []) k) workers (rounds_seen o.rounds.items))) (sym is)
      (weaker result (λ o. IsLawfulFor j (counted_words j (written.Summary (length text)) text) workers (rounds_seen o.rounds.items))
      (λ o. IsLawfulFor j (meaning_of_kind j (text ∷ []) kind.WordCount) workers (rounds_seen o.rounds.items))
      (λ o. same_rounds text (rounds_seen o.rounds.items)) out.shares)
