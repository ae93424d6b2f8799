-- In which order rows are taken from lists, and ranges of lists.
use Rattle.std.specs.Prelude.{◌≡◌, ℕ, Bool, List, [], ◌∷◌, length, drop, slice_index_or, slice_set}
use Rattle.std.specs.List.{AllByRecursion}
use Rattle.mr_defs.specs.Partitions.{concatenated}
use Rattle.mr_merge.specs.Lists.{each_with}
use Rattle.mr_merge.specs.Rising.{AreAbove}

module _ {X : Type 0} (lt : X → X → Bool) where
  -- the list has a first row, and none of these is lesser
  abbrev pub IsLeast : List X → List X → Type 0
  IsLeast rows [] = ⊥
  IsLeast rows (x ∷ xs) = AreAbove lt x rows

  -- rows that are taken by these numbers of lists, each the first of its list and none of those that are left lesser, leave none
  abbrev pub IsPlan : List (List X) → List ℕ → Type 0
  IsPlan lists [] = concatenated lists ≡ []
  IsPlan lists (i ∷ plan) = IsLeast (concatenated lists) (slice_index_or lists i []) × IsPlan
      (slice_set lists i (drop 1 (slice_index_or lists i []))) plan

  -- each list is a front and a back, and no row of a back is lesser than one of a front
  pub record IsCutOff (lists fronts backs : List (List X)) : Type 0 where
    pub len : length backs ≡ length fronts
    pub joined : lists ≡ each_with fronts backs
    pub below : AllByRecursion (λ x. AreAbove lt x (concatenated backs)) (concatenated fronts)

  -- the lists are cut off part by part, and nothing is left
  abbrev pub IsCut : List (List X) → List (List (List X)) → Type 0
  IsCut lists [] = concatenated lists ≡ []
  IsCut lists (part ∷ parts) = (backs : List (List X)) × IsCutOff lists part backs × IsCut backs parts
