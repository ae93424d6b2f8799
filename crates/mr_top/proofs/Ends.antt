-- How a run ends that halted, or that wrote.
use Rattle.std.proofs.Common.{◌≡◌, ◌⊎◌, ℕ, Bool, List, Some, None, Ok, inl, inr, true, false, true≢false, refl, sym, ap, ◌∙◌}
use Rattle.std.specs.Option.{option_map_or}
use Rattle.std.specs.declared.option.Option.{Option}
use Rattle.mr_base.specs.declared.status.Status.{Status}
use Rattle.mr_base.specs.declared.status.Status.TheVariants as status
use Rattle.mr_jobs.specs.Ending.{refused, is_of_inputs, passed}
use Rattle.mr_top.specs.declared.halt.Halt.{Halt}
use Rattle.mr_top.specs.declared.halt.Halt.TheVariants as halt
use Rattle.mr_command.specs.Form.{Form, form}
use Rattle.mr_top.specs.Stages.{Contents, Stage, ComesTo, usage}
use Rattle.mr_top.specs.RunEnding.{run_ending, commanded}
use Rattle.mr_top.specs.Halts.{Halts, IsPastWords, IsUsage, status_of_halt, line_of_halt}
use Rattle.mr_top.specs.Means.{Tells, Says}

abbrev is_job : Status → Bool
is_job status.Job = true
is_job status.Done = false
is_job status.Usage = false
is_job status.Input = false
is_job status.Outside = false
is_job status.Twice = false
is_job status.Over = false
is_job status.ReadFault = false
is_job status.WriteFault = false
is_job status.Memory = false

-- the status of a refusal with a line of its own
abbrev IsRefused : Status → Type 0
IsRefused s = (is_of_inputs s ≡ true) ⊎ (s ≡ status.Job)

no_other : {A : Type 0} (s : Status) → is_of_inputs s ≡ false → is_job s ≡ false → IsRefused s → A
no_other s inputs job h = elim h [ inl e ↦ absurd (true≢false (sym e ∙ inputs)) | inr e ↦ absurd (true≢false (sym (ap is_job e) ∙ job)) ]

module _ (contents : Option Contents) (words : List (List ℕ)) where
  module _ (old new : Option (List ℕ)) (before now : ℕ) where
    refused_tells : (s : Status) (line : List ℕ) → IsRefused s → ComesTo contents (run_ending words) (refused s line)
        → Says line old new before now → Tells s contents words old new before now
    refused_tells status.Job line of is says = (line, is, says)
    refused_tells status.Input line of is says = (line, is, says)
    refused_tells status.Outside line of is says = (line, is, says)
    refused_tells status.Twice line of is says = (line, is, says)
    refused_tells status.Over line of is says = (line, is, says)
    refused_tells status.Usage line of is says = no_other status.Usage refl refl of
    refused_tells status.Done line of is says = no_other status.Done refl refl of
    refused_tells status.ReadFault line of is says = no_other status.ReadFault refl refl of
    refused_tells status.WriteFault line of is says = no_other status.WriteFault refl refl of
    refused_tells status.Memory line of is says = no_other status.Memory refl refl of

    pub halt_tells : (h : Halt) (first then : ℕ) → Halts h contents (run_ending words) first then → IsUsage h ⊎ IsPastWords h
        → Says (line_of_halt h) old new before now → Tells (status_of_halt h) contents words old new before now
    halt_tells halt.Usage first then is of says = says
    halt_tells (halt.Refused r) first then is of says = refused_tells r.status r.line (elim of [ inl u ↦ absurd u | inr p ↦ p ]) is says
    halt_tells halt.Read first then is of says = says
    halt_tells halt.Memory first then is of says = says

abbrev stage_of : Option Form → Stage (List ℕ)
stage_of form content = passed (option_map_or Ok form usage) (λ f. commanded f content)

-- how the run of words with a form ends, and that of words without
pub ending_of_form : (words : List (List ℕ)) (f : Form) → form words ≡ Some f → commanded f ≡ run_ending words
unfolding run_ending
ending_of_form words f e = ap stage_of (sym e)

pub ending_without : (words : List (List ℕ)) → form words ≡ None → (λ content. usage) ≡ run_ending words
unfolding run_ending
ending_without words e = ap stage_of (sym e)
