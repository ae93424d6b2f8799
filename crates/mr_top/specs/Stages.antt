-- A run goes by stages: each comes, for the contents by name, to a value that the next one takes up, or to a refusal.
use Rattle.std.specs.Prelude.{◌≡◌, ℕ, List, codes, Some, None}
use Rattle.std.specs.declared.option.Option.{Option}
use Rattle.mr_base.specs.declared.status.Status.TheVariants as status
use Rattle.mr_items.specs.FaultLines.{fault_line}
use Rattle.mr_jobs.specs.Ending.{Ended, refused, passed}

-- contents by name, and nothing for a name that isn't there
abbrev pub Contents : Type 0
Contents = List ℕ → Option (List ℕ)

abbrev pub Stage : Type 0 → Type 0
Stage A = Contents → Ended A

-- one stage, and the next one on what it passes
abbrev pub followed : {A B : Type 0} → Stage A → (A → Stage B) → Stage B
followed stage next content = passed (stage content) (λ a. next a content)

abbrev pub usage : {A : Type 0} → Ended A
usage = refused status.Usage (fault_line (codes "usage"))

abbrev pub read_fault : {A : Type 0} → Ended A
read_fault = refused status.ReadFault (fault_line (codes "read"))

-- where contents are told, the stage comes to this
abbrev pub ComesTo : {A : Type 0} → Option Contents → Stage A → Ended A → Type 0
ComesTo None stage ended = Unit {0}
ComesTo (Some content) stage ended = stage content ≡ ended
