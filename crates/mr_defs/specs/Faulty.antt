-- The faults of a list of emissions, and the first of them.
use Rattle.std.specs.Prelude.{ℕ, Bool, not, is_none, nat_lt, List, ◌++◌, length, Option, None, filter, filter_map, option_map}
use Rattle.std.specs.Option.{option_or}
use Rattle.std.specs.declared.cmp.Ordering.{Ordering}
use Rattle.std.specs.Ordering.{nat_cmp}
use Rattle.mr_defs.specs.declared.Fault.{Fault}
use Rattle.mr_defs.specs.declared.Fault.TheVariants as fault
use Rattle.mr_defs.specs.Emission.{Emission, Answer}
use Rattle.mr_defs.specs.Keyed.{at, keys_inside, any_key, large_key, malformed_offset, least}

-- what is noted of the faults: of each kind one or none
pub record Noted (K : Type 0) : Type 0 where
  pub malformed : Option ℕ
  pub outside : Option K
  pub twice : Option K
  pub over : Option K

-- the first that is there
abbrev pub first_of : {K : Type 0} → Noted K → Option (Fault K)
first_of noted =
    option_or (option_map fault.Malformed noted.malformed)
    (option_or (option_map fault.Outside noted.outside)
    (option_or (option_map fault.Twice noted.twice) (option_map fault.Over noted.over)))

-- the least malformed offset
abbrev pub malformed_of : {K V : Type 0} → List (Emission K V) → Option ℕ
malformed_of es = least nat_cmp (filter_map malformed_offset es)

module _ {K V : Type 0} (R : K → K → Ordering) (inside : K → Bool) where
  -- the least key of a pair or a too large value that is not inside
  abbrev pub outside_of : List (Emission K V) → Option K
  outside_of es = least R (filter (λ k. not (inside k)) (filter_map any_key es))

  -- the least key inside that stands in more than one pair
  abbrev pub twice_of : List (Emission K V) → Option K
  twice_of es = least R (filter (λ k. nat_lt 1 (length (at R es k))) (keys_inside R inside es))

  -- the least key inside with a too large value
  abbrev pub large_of : List (Emission K V) → Option K
  large_of es = least R (filter inside (filter_map large_key es))

  -- the least key inside with a too large value or a fold that is over
  abbrev pub over_of : (List V → Option Answer) → List (Emission K V) → Option K
  over_of folded es =
      least R (filter inside (filter_map large_key es) ++ filter (λ k. is_none (folded (at R es k))) (keys_inside R inside es))

  -- the least fault of each kind, in containers of the workers' own and in the array common to all
  abbrev pub faults_of : (List V → Option Answer) → List (Emission K V) → Noted K
  faults_of folded es =
      record { malformed = malformed_of es; outside = outside_of es; twice = None; over = over_of folded es }

  abbrev pub common_faults_of : List (Emission K V) → Noted K
  common_faults_of es =
      record { malformed = malformed_of es; outside = outside_of es; twice = twice_of es; over = large_of es }

  -- the first fault, in each
  abbrev pub fault_of : (List V → Option Answer) → List (Emission K V) → Option (Fault K)
  fault_of folded es = first_of (faults_of folded es)

  abbrev pub common_fault_of : List (Emission K V) → Option (Fault K)
  common_fault_of es = first_of (common_faults_of es)
