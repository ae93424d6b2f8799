-- Stages in a row.
use Rattle.std.proofs.Common.{◌≡◌, ℕ, ◌≤◌, Some, None, Ok, Err, inl, inr, refl, ap, subst, ◌∙◌, arith}
use Rattle.std.specs.declared.option.Option.{Option}
use Rattle.mr_base.specs.declared.Stop.{Stop}
use Rattle.mr_base.specs.declared.Stop.TheVariants as stop
use Rattle.mr_outside.specs.Count.{Rose}
use Rattle.mr_jobs.specs.declared.Refusal.{Refusal}
use Rattle.mr_jobs.specs.Ending.{Ended, passed}
use Rattle.mr_jobs.specs.Meets.{MeetsSeen}
use Rattle.mr_top.specs.declared.halt.Halt.{Halt}
use Rattle.mr_top.specs.declared.halt.Halt.TheVariants as halt
use Rattle.mr_top.specs.Stages.{Contents, Stage, ComesTo, followed}
use Rattle.mr_top.specs.Halts.{Halts, ReadCause, halt_of}

-- where contents are told, a refusal of one stage is one of another
abbrev pub Carries : {A B : Type 0} → Option Contents → Stage A → Stage B → Type 0
Carries contents part whole = (content : Contents) → contents ≡ Some content → (r : Refusal) → part content ≡ Err r → whole content ≡ Err r

module _ {A B : Type 0} (contents : Option Contents) (part : Stage A) (whole : Stage B) (carries : Carries contents part whole) where
  refusal_carried : (r : Refusal) → ComesTo contents part (Err r) → ComesTo contents whole (Err r)
  refusal_carried r h = elim contents as (λ c. contents ≡ c → ComesTo c part (Err r) → ComesTo c whole (Err r)) [
    | None ↦ λ e h. tt
    | Some content ↦ λ e h. carries content e r h
  ] refl h

  cause_carried : (first before now : ℕ) → first ≤ before → ReadCause contents part before now → ReadCause contents whole first now
  cause_carried first before now le h = elim contents as (λ c. contents ≡ c → ReadCause c part before now → ReadCause c whole first now) [
    | None ↦ λ e h. rose h
    | Some content ↦ λ e h. elim h [ inl r ↦ inl (rose r) | inr is ↦ inr (carries content e _ is) ]
  ] refl h
    where
      rose : Rose before now → Rose first now
      rose r = omega arith

  -- a halt at one stage is one at the other, which began no later
  pub carried : (h : Halt) (first before now : ℕ) → first ≤ before → Halts h contents part before now → Halts h contents whole first now
  carried halt.Usage first before now le is = refusal_carried _ is
  carried (halt.Refused r) first before now le is = refusal_carried r is
  carried halt.Read first before now le is = cause_carried first before now le is
  carried halt.Memory first before now le is = tt

module _ {A B : Type 0} (contents : Option Contents) (stage : Stage A) (next : A → Stage B) where
  -- what the first stage refuses, both refuse
  pub halts_first : (h : Halt) (before now : ℕ) → Halts h contents stage before now → Halts h contents (followed stage next) before now
  halts_first h before now is =
      carried contents stage (followed stage next)
      (λ content e r given. ap (λ s. passed s (λ a. next a content)) given) h before before now (omega arith) is

  module _ (a : A) (passes : ComesTo contents stage (Ok a)) where
    passed_on : (content : Contents) → contents ≡ Some content → followed stage next content ≡ next a content
    passed_on content e = ap (λ s. passed s (λ a. next a content)) (subst (λ c. ComesTo c stage (Ok a)) e passes)

    -- where the first one passes a value, both are the next stage on it
    pub comes_next : (ended : Ended B) → ComesTo contents (next a) ended → ComesTo contents (followed stage next) ended
    comes_next ended h = elim contents as (λ c. contents ≡ c → ComesTo c (next a) ended → ComesTo c (followed stage next) ended) [
      | None ↦ λ e h. tt
      | Some content ↦ λ e h. passed_on content e ∙ h
    ] refl h

    pub halts_next : (h : Halt) (first before now : ℕ) → first ≤ before → Halts h contents (next a) before now
        → Halts h contents (followed stage next) first now
    halts_next h first before now le is =
        carried contents (next a) (followed stage next) (λ content e r given. passed_on content e ∙ given) h first before now le is

-- a stage that reads nothing
pub given_comes : {A : Type 0} (contents : Option Contents) (meant ended : Ended A) → meant ≡ ended
    → ComesTo contents (λ content. meant) ended
given_comes None meant ended e = tt
given_comes (Some content) meant ended e = e

pub given_halts : {A B : Type 0} (contents : Option Contents) (see : B → A) (meant : Ended A) (s : Stop Refusal) (before now : ℕ)
    → MeetsSeen see meant (Err s) → Halts (halt_of s) contents (λ content. meant) before now
given_halts contents see meant (stop.Refused r) before now e = given_comes contents meant (Err r) e
given_halts contents see meant stop.Memory before now e = tt
