-- Lists of rows as one list, and its text.
use Rattle.std.specs.Prelude.{◌≡◌, ℕ, List, map}
use Rattle.std.specs.Ordering.{eq_by_cmp}
use Rattle.std.specs.List.{All, IsDistinct}
use Rattle.std.specs.List.Sorted.{IsPermutation, IsStrictlySortedBy}
use Rattle.std.specs.declared.cmp.Ordering.{Ordering}
use Rattle.mr_defs.specs.Emission.{Row}
use Rattle.mr_defs.specs.Partitions.{concatenated}
use Rattle.mr_items.specs.Texts.{rows_text}

-- lists that ascend by key, and whose keys all differ
pub record CanMerge {K A : Type 0} (R : K → K → Ordering) (lists : List (List (K × A))) : Type 0 where
  pub ascend : All (λ list. IsStrictlySortedBy R (map (λ row. row.0) list)) lists
  pub differ : IsDistinct (eq_by_cmp R) (map (λ row. row.0) (concatenated lists))

-- the rows of the lists as one list that ascends by key
pub record AreMerged {K A : Type 0} (R : K → K → Ordering) (lists : List (List (K × A))) (rows : List (K × A)) : Type 0 where
  pub all : IsPermutation (concatenated lists) rows
  pub ascend : IsStrictlySortedBy R (map (λ row. row.0) rows)

-- the text of such a list
abbrev pub IsMergedText : {K : Type 0} → (K → K → Ordering) → (K → List ℕ) → List (List (Row K)) → List ℕ → Type 0
IsMergedText R print lists text = (rows : List (Row _)) × AreMerged R lists rows × (text ≡ rows_text print rows)
