-- Lists that have the rows of emissions, beside the faults of these.
use Rattle.std.specs.Prelude.{Bool, List, Option}
use Rattle.std.specs.declared.cmp.Ordering.{Ordering}
use Rattle.mr_defs.specs.Emission.{Emission, Answer, Row}
use Rattle.std.specs.Ordering.{nat_cmp}
use Rattle.mr_defs.specs.Commutative.{joined_by}
use Rattle.mr_defs.specs.Keyed.{lesser}
use Rattle.mr_defs.specs.Partitions.{IsSpread}
use Rattle.mr_defs.specs.Rows.{rows_of}
use Rattle.mr_defs.specs.Faulty.{Noted}
use Rattle.mr_phase.specs.Reduced.{IsReduced}

-- the faults of all, each the least of its kind
abbrev pub noted_all : {K X : Type 0} → (K → K → Ordering) → (X → Noted K) → List X → Noted K
noted_all R noted xs = record {
  malformed = joined_by (lesser nat_cmp) (λ x. (noted x).malformed) xs;
  outside = joined_by (lesser R) (λ x. (noted x).outside) xs;
  twice = joined_by (lesser R) (λ x. (noted x).twice) xs;
  over = joined_by (lesser R) (λ x. (noted x).over) xs;
}

-- the lists together have the rows of the emissions and each ascends, and the faults are those of the emissions
pub record IsSpreadOf {K V : Type 0} (R : K → K → Ordering) (inside : K → Bool) (folded : List V → Option Answer)
    (lists : List (List (Row K))) (noted : Noted K) (es : List (Emission K V)) : Type 0 where
  pub rows : IsSpread R (rows_of R inside folded es) lists
  pub faults : IsReduced R inside folded (rows_of R inside folded es) noted es
