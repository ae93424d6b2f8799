-- What emissions mean does not depend on their order.
use Rattle.std.specs.Prelude.{◌≡◌, Bool, List, Option, None}
use Rattle.std.specs.List.Sorted.{IsPermutation}
use Rattle.std.specs.declared.cmp.Ordering.{Ordering}
use Rattle.mr_defs.specs.Emission.{Emission, Answer}
use Rattle.mr_defs.specs.Faulty.{fault_of, common_fault_of, twice_of}
use Rattle.mr_defs.specs.Rows.{rows_of, cells_of}

-- values in another order fold to the same
abbrev pub IsFoldOrderFree : {V : Type 0} → (List V → Option Answer) → Type 0
IsFoldOrderFree {V} folded = (xs ys : List V) → IsPermutation xs ys → folded ys ≡ folded xs

module _ {K V : Type 0} (R : K → K → Ordering) (inside : K → Bool) (folded : List V → Option Answer) (xs ys : List (Emission K V)) where
  -- the rows, the fault and the number of keys inside of both lists are the same
  pub record MeansTheSame : Type 0 where
    pub rows : rows_of R inside folded ys ≡ rows_of R inside folded xs
    pub fault : fault_of R inside folded ys ≡ fault_of R inside folded xs
    pub cells : cells_of R inside ys ≡ cells_of R inside xs

  -- in the array common to all workers, for every fold: the fault, and where no key inside stands in two pairs the rows
  pub record SharesTheSame : Type 0 where
    pub fault : common_fault_of R inside ys ≡ common_fault_of R inside xs
    pub rows : twice_of R inside xs ≡ None → rows_of R inside folded ys ≡ rows_of R inside folded xs
