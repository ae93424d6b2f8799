-- The rows of a round that has no fault.
use Rattle.std.proofs.Common.{◌≡◌, Bool, false, if◌then◌else◌, List, Option, Some, None, Ok, Err, refl, subst}
use Rattle.std.specs.Option.{option_map_or}
use Rattle.std.specs.declared.cmp.Ordering.{Ordering}
use Rattle.mr_defs.specs.Emission.{Emission, Answer, Row}
use Rattle.mr_defs.specs.Faulty.{fault_of, common_fault_of}
use Rattle.mr_defs.specs.declared.Fault.{Fault}
use Rattle.mr_defs.specs.Rounds.{round_of}
use Rattle.mr_defs.specs.Rows.{rows_of}

module _ {K V : Type 0} (R : K → K → Ordering) (inside : K → Bool) (shared : Bool) (folded : List V → Option Answer)
    (es : List (Emission K V)) (rows : List (Row K)) where
  pub passed_rows : round_of R inside shared folded es ≡ Ok rows → rows_of R inside folded es ≡ rows
  passed_rows e = by (if shared then common_fault_of R inside es else fault_of R inside folded es) e
    where
      by : (fault : Option (Fault K)) → option_map_or Err fault (Ok (rows_of R inside folded es)) ≡ Ok rows
          → rows_of R inside folded es ≡ rows
      by None k = cc
      by (Some f) k = absurd (cc)

  -- none of its kinds of fault is there
  pub passed_faults : shared ≡ false → round_of R inside shared folded es ≡ Ok rows → fault_of R inside folded es ≡ None
  passed_faults own e = by (fault_of R inside folded es) (subst (λ is. round_of R inside is folded es ≡ Ok rows) own e)
    where
      by : (fault : Option (Fault K)) → option_map_or Err fault (Ok (rows_of R inside folded es)) ≡ Ok rows → fault ≡ None
      by None k = refl
      by (Some f) k = absurd (cc)
