-- A job of one round.
use Rattle.std.proofs.Common.{◌≡◌, Bool, ℕ, List, Option, Ok, Err, [], ◌∷◌, refl}
use Rattle.std.specs.declared.result.Result.{Result}
use Rattle.std.specs.declared.cmp.Ordering.{Ordering}
use Rattle.mr_defs.specs.Emission.{Emission, Answer, Row}
use Rattle.mr_defs.specs.declared.Fault.{Fault}
use Rattle.mr_defs.specs.Rounds.{round_of, one_round_of, only_round, states_after, states_of, text_after}
use Rattle.mr_jobs.specs.Meets.{texted}

module _ {K V : Type 0} (R : K → K → Ordering) (inside : K → Bool) (shared : Bool) (folded : List V → Option Answer)
    (text : List (Row K) → List ℕ) where
  after_one : (round : Result (List (Row K)) (Fault K)) → texted text round
      ≡ text_after R inside shared folded {S = Unit {0}} (λ s. []) (only_round text) (λ s. Ok []) tt round
  after_one (Ok rows) = refl
  after_one (Err f) = refl

  -- it ends with the text of its rows, or with its fault
  pub one_round : (es : List (Emission K V)) → texted text (round_of R inside shared folded es)
      ≡ one_round_of R inside shared folded text es
  one_round es = after_one (round_of R inside shared folded es)

  -- and no other round comes behind it
  pub only_state : (es : List (Emission K V)) → states_of R inside shared folded {S = Unit {0}} (λ s. es) (only_round text) 1 tt ≡ tt ∷ []
  only_state es = by (round_of R inside shared folded es)
    where
      by : (round : Result (List (Row K)) (Fault K))
          → tt ∷ states_after R inside shared folded {S = Unit {0}} (λ s. es) (only_round text) (λ s. []) tt round ≡ tt ∷ []
      by (Ok rows) = refl
      by (Err f) = refl
