-- What a round of several leads to.
use Rattle.mr_defs.specs.Rounds.{Next, again, ended}
use Rattle.mr_jobs.specs.declared.rounds.Sequel.{Sequel}
use Rattle.mr_jobs.specs.declared.rounds.Sequel.TheVariants as sequel

-- as the model says it
abbrev pub next_of : {S : Type 0} → Sequel S → Next S
next_of (sequel.Again s) = again s
next_of (sequel.Ended text) = ended text

-- a state that it leads to is such a one
abbrev pub LeadsTo : {S : Type 0} → (S → Type 0) → Sequel S → Type 0
LeadsTo fits (sequel.Again s) = fits s
LeadsTo fits (sequel.Ended text) = Unit {0}
