-- Entries that are taken ascending by key: what was taken, and what is left.
use Rattle.std.specs.Prelude.{◌≡◌, ℕ, ◌+◌, ◌-◌, ◌/◌, ◌<◌, ◌≤◌, ◌++◌, Bool, List, All, get_or, length, map, take}
use Rattle.std.specs.Borrow.{Bor}
use Rattle.std.specs.declared.cmp.Ordering.{Ordering}
use Rattle.std.specs.Ordering.{is_lt}
use Rattle.std.specs.List.Sorted.{IsNonDecreasing, IsPermutation, IsSortedBy}
use Rattle.mr_phase.specs.Packed.{Fronts, picked}
use Rattle.mr_phase.specs.declared.ahead.Ahead.{Ahead}

module _ {K C : Type 0} where
  -- entries without the leads of their keys
  abbrev pub pairs_of : List (ℕ × Bor K × Bor C) → List (Bor K × Bor C)
  pairs_of es = map (λ e. (e.1, e.2)) es

  -- how many are left to take
  abbrev pub left_of : Ahead K C → ℕ
  left_of a = length a.near.items + (length a.words.items - a.read)

  -- what was read has its leads, and where numbers are left there are entries
  pub record IsAhead (lead_of : K → ℕ) (a : Ahead K C) : Type 0 where
    pub inside : a.read ≤ length a.words.items
    pub some : a.read < length a.words.items → 0 < length a.entries.items
    pub leads : All (λ e. e.0 ≡ lead_of e.1.now) a.near.items

  module _ (R : K → K → Ordering) where
    -- the key of the first is lesser
    abbrev pub is_before : Bor K × Bor C → Bor K × Bor C → Bool
    is_before x y = is_lt (R x.0.now y.0.now)

    -- they are all entries, and ascend
    pub record AreInOrder (all sorted : List (Bor K × Bor C)) : Type 0 where
      pub same : IsPermutation all sorted
      pub rises : IsSortedBy is_before sorted

    -- of all entries these were taken: with those that were read they are in order, and no number that is left tells a front that one of
    -- them has
    pub record AreTakenOf (all taken : List (Bor K × Bor C)) (words : List ℕ) (read : ℕ) (near : List (ℕ × Bor K × Bor C)) : Type 0 where
      pub fronts : Fronts is_before all words
      pub rise : IsNonDecreasing words
      pub whole : IsPermutation all (picked all words)
      pub same : IsPermutation (picked all (take read words)) (taken ++ pairs_of near)
      pub rises : IsSortedBy is_before (taken ++ pairs_of near)
      pub bound : ℕ
      pub below : All (λ e. fronts.front e < bound) (taken ++ pairs_of near)
      pub later : (j : ℕ) → read ≤ j → j < length words → bound ≤ get_or words j 0 / length all

    abbrev pub AreTaken : List (Bor K × Bor C) → Ahead K C → Type 0
    AreTaken taken a = AreTakenOf a.entries.items taken a.words.items a.read a.near.items
