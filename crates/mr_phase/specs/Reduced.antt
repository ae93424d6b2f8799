-- The rows and the faults of a list of emissions, and what each entry gives of them.
use Rattle.std.specs.Prelude.{◌≡◌, Bool, if◌then◌else◌, List, Option, Some, None, option_map}
use Rattle.std.specs.declared.cmp.Ordering.{Ordering}
use Rattle.mr_defs.specs.Emission.{Emission, Answer, Row}
use Rattle.mr_defs.specs.Faulty.{malformed_of, outside_of, over_of, Noted}
use Rattle.mr_defs.specs.Rows.{rows_of}
use Rattle.mr_combine.specs.Fold.{outcome}

-- the rows are those of the emissions, and each fault that is noted is the least of its kind
pub record IsReduced {K V : Type 0} (R : K → K → Ordering) (inside : K → Bool) (folded : List V → Option Answer) (rows : List (Row K))
    (noted : Noted K) (es : List (Emission K V)) : Type 0 where
  pub all_rows : rows ≡ rows_of R inside folded es
  pub malformed : noted.malformed ≡ malformed_of es
  pub outside : noted.outside ≡ outside_of R inside es
  pub twice : noted.twice ≡ None
  pub over : noted.over ≡ over_of R inside folded es

-- the row of an entry, a key with its cell, whose cell is not over
abbrev pub entry_row : {K C : Type 0} → (C → Bool) → (C → Answer) → K × C → Option (Row K)
entry_row over answer entry = option_map (λ a. (entry.0, a)) (outcome over answer entry.1)

-- the key of an entry whose cell is over
abbrev pub over_key : {K C : Type 0} → (C → Bool) → K × C → Option K
over_key over entry = if over entry.1 then Some entry.0 else None
