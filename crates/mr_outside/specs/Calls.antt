-- The calls that were made of a shelf or a sink in memory, numbered from 1.
use Rattle.std.specs.Prelude.{ℕ, List, [], ◌∷◌, ◌++◌, Bool, nat_eq}
use Rattle.std.specs.List.{list_any}
use Rattle.mr_outside.specs.Count.{risen}

-- how many calls were made, and the numbers of those that are to fail
pub record Calls : Type 0 where
  pub made : ℕ
  pub failing : List ℕ

-- no call was made, and none is to fail
abbrev pub no_calls : Calls
no_calls = record { made = 0; failing = [] }

-- the call of this number is to fail too
abbrev pub failing_at : ℕ → Calls → Calls
failing_at call calls = record calls { failing = calls.failing ++ call ∷ [] }

-- the calls after one more
abbrev pub called : Calls → Calls
called calls = record calls { made = risen calls.made }

-- whether the next call is to fail
abbrev pub fails_next : Calls → Bool
fails_next calls = list_any (λ call. nat_eq call (risen calls.made)) calls.failing
