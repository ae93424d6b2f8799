-- What was noted of a round over the array that all workers share, and its rows, are the round.
use Rattle.std.proofs.Common.{◌≡◌, ℕ, Bool, true, List, Option, Some, None, Ok, Err, sym, ap, ◌∙◌, refl}
use Rattle.std.specs.Option.{option_map_or}
use Rattle.std.specs.declared.cmp.Ordering.{Ordering}
use Rattle.mr_defs.specs.Emission.{Emission, Answer, Row}
use Rattle.mr_defs.specs.Faulty.{Noted, common_faults_of, first_of}
use Rattle.mr_defs.specs.Rounds.{round_of}
use Rattle.mr_defs.specs.Rows.{rows_of}
use Rattle.mr_defs.specs.declared.Fault.{Fault}

-- where no fault is first, no key was noted as emitted twice
pub none_twice : {K : Type 0} (noted : Noted K) → None ≡ first_of noted → noted.twice ≡ None
none_twice {K} noted none = by noted.malformed noted.outside noted.twice noted.over none
  where
    by : (m : Option ℕ) (o t v : Option K) → None ≡ first_of (record { malformed = m; outside = o; twice = t; over = v }) → t ≡ None
    by None None None v e = refl
    by None None (Some k) v e = cc
    by None (Some k) t v e = cc
    by (Some m) o t v e = cc

module _ {K V : Type 0} (R : K → K → Ordering) (inside : K → Bool) (folded : List V → Option Answer) (es : List (Emission K V))
    (noted : Noted K) (is : noted ≡ common_faults_of R inside es) where
  pub common_refused : (fault : Fault K) → Some fault ≡ first_of noted → round_of R inside true folded es ≡ Err fault
  common_refused fault first = ap (λ f. option_map_or Err f (Ok (rows_of R inside folded es))) (sym (first ∙ ap first_of is))

  pub common_passed : (rows : List (Row K)) → None ≡ first_of noted → (noted.twice ≡ None → rows ≡ rows_of R inside folded es)
      → round_of R inside true folded es ≡ Ok rows
  common_passed rows first are =
      ap (λ f. option_map_or Err f (Ok (rows_of R inside folded es))) (sym (first ∙ ap first_of is))
      ∙ ap Ok (sym (are (none_twice noted first)))
