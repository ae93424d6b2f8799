-- Reports that are asked for.
use Rattle.std.proofs.Common.{◌≡◌, ◌∙◌, Bool, true, false, true≢false, ℕ, List, Option, Some, None, Ok, Err, IfOk, if◌then◌else◌, ap, refl}
use Rattle.std.proofs.Common.{subst, sym}
use Rattle.std.specs.Option.{option_map_or}
use Rattle.std.specs.declared.result.Result.{Result}
use Rattle.mr_items.specs.Report.{Work, report_text}
use Rattle.mr_top.specs.Means.{TellsDone}
use Rattle.mr_command.specs.declared.command.Mode.{Mode}
use Rattle.mr_command.specs.declared.command.Mode.TheVariants as mode
use Rattle.mr_command.specs.Form.{Form, form}
use Rattle.mr_jobfile.specs.Values.{SeenJob}
use Rattle.mr_top.specs.declared.halt.Halt.{Halt}
use Rattle.mr_top.specs.declared.finished.Finished.{Finished}
use Rattle.mr_top.specs.Reports.{IsOfCommand, IsOfJobReport, IsOfWords, Reports, reports, reports_in}
use Rattle.mr_top.specs.RunEnding.{job_at}
use Rattle.mr_top.specs.Stages.{ComesTo, Contents}
use Rattle.mr_top.specs.Written.{Told}

-- the report of these rounds, where one is asked for, and so many workers are told of
pub reports_given : (asked told : Bool) (count : ℕ) (Is : Option ℕ → List (List Work) → Type 0) (rounds : List (List Work))
    (report : Option (List ℕ)) → told ≡ asked → report ≡ (if asked then Some (report_text rounds) else None)
    → Is (if told then Some count else None) rounds → Reports asked (Is (Some count)) report
reports_given true true count Is rounds report same is of = (rounds, of, is)
reports_given true false count Is rounds report same is of = absurd (true≢false (sym same))
reports_given false told count Is rounds report same is of = is

-- rounds of which more holds
pub reports_more : (asked : Bool) (Is More : List (List Work) → Type 0) (report : Option (List ℕ))
    → ((rounds : List (List Work)) → Is rounds → More rounds) → Reports asked Is report → Reports asked More report
reports_more true Is More report more r = (r.0, more r.0 r.1, r.2)
reports_more false Is More report more is = is

-- what the error output was told after Done
pub done_tells : (asked : Bool) (contents : Option Contents) (words : List (List ℕ)) (report old new : Option (List ℕ)) (before now : ℕ)
    → Reports asked (IsOfWords contents words) report → Told report old new before now → TellsDone asked contents words old new before now
done_tells true contents words report old new before now r told = (r.0, r.1, subst (λ report. Told report old new before now) r.2 told)
done_tells false contents words report old new before now is told = subst (λ report. Told report old new before now) is told

module _ (contents : Option Contents) (f : Form) (j : SeenJob) where
  -- rounds of a job are those of the command that names it, in a mode that has the report that was asked for
  pub command_reports : (m : Mode) → reports_in m f.report ≡ f.report → f.mode ≡ m → ComesTo contents (job_at f.job) (Ok j)
      → (report : Option (List ℕ))
      → Reports f.report (IsOfJobReport contents m f.inputs j f.workers) report
      → Reports (reports_in f.mode f.report) (IsOfCommand contents f) report
  command_reports m same is comes report r =
      subst (λ asked. Reports asked (IsOfCommand contents f) report) (sym same ∙ ap (λ m. reports_in m f.report) (sym is))
      (reports_more f.report _ _ report
      (λ rounds given. (j, comes, subst (λ m. IsOfJobReport contents m f.inputs j f.workers rounds) (sym is) given)) r)

  -- and where the job ran on inputs
  pub run_reports : (after : Option Contents) (job : List ℕ) (names : List (List ℕ)) (workers : ℕ) (r : Result Finished Halt)
      → after ≡ contents → f.mode ≡ mode.Run
      → job ≡ f.job → names ≡ f.inputs → workers ≡ f.workers → ComesTo contents (job_at job) (Ok j)
      → IfOk r (λ o. Reports f.report (IsOfJobReport after mode.Run names j workers) o.report)
      → IfOk r (λ o. Reports (reports_in f.mode f.report) (IsOfCommand contents f) o.report)
  run_reports after job names workers (Err h) kept is same_job same_names same_workers comes given = tt
  run_reports after job names workers (Ok o) kept is same_job same_names same_workers comes given =
      command_reports mode.Run refl is (subst (λ job. ComesTo contents (job_at job) (Ok j)) same_job comes) o.report
      (subst (λ k. Reports f.report (IsOfJobReport k mode.Run f.inputs j f.workers) o.report) kept
      (subst (λ n. Reports f.report (IsOfJobReport after mode.Run f.inputs j n) o.report) same_workers
      (subst (λ names. Reports f.report (IsOfJobReport after mode.Run names j workers) o.report) same_names given)))

-- rounds of a command are those of the words that ask for it
pub words_reports : (contents : Option Contents) (words : List (List ℕ)) (f : Form) (r : Result Finished Halt) → form words ≡ Some f
    → IfOk r (λ o. Reports (reports_in f.mode f.report) (IsOfCommand contents f) o.report)
    → IfOk r (λ o. Reports (reports words) (IsOfWords contents words) o.report)
words_reports contents words f (Err h) is given = tt
words_reports contents words f (Ok o) is given =
    subst (λ asked. Reports asked (IsOfWords contents words) o.report)
    (sym (ap (λ form. option_map_or (λ f. reports_in f.mode f.report) form false) is))
    (reports_more _ _ _ o.report (λ rounds of. (f, is, of)) given)
