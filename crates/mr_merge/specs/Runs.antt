-- What is left of lists, beside their numbers.
use Rattle.std.specs.Prelude.{◌≡◌, ◌≢◌, ◌⊎◌, ℕ, Bool, List, [], ◌∷◌, slice_index_or}
use Rattle.std.specs.Borrow.{Bor}
use Rattle.std.specs.List.{AllByRecursion}
use Rattle.mr_merge.specs.Rising.{Rises, begins_lower}

module _ {X : Type 0} where
  -- one of them is that of list j
  abbrev pub IsOne : ℕ → List (ℕ × Bor (List X)) → Type 0
  IsOne j [] = ⊥
  IsOne j (r ∷ runs) = (r.0 ≡ j) ⊎ IsOne j runs

  -- no two are of one list
  abbrev pub AreApart : List (ℕ × Bor (List X)) → Type 0
  AreApart [] = Unit {0}
  AreApart (r ∷ runs) = AllByRecursion (λ s. s.0 ≢ r.0) runs × AreApart runs

  -- they are all that is left of these lists, in the order of their first rows
  pub record AreRuns (lt : X → X → Bool) (lists : List (List X)) (runs : List (ℕ × Bor (List X))) : Type 0 where
    pub held : AllByRecursion (λ r. slice_index_or lists r.0 [] ≡ r.1.now) runs
    pub each : (j : ℕ) → (slice_index_or lists j [] ≡ []) ⊎ IsOne j runs
    pub apart : AreApart runs
    pub rise : AllByRecursion (λ r. Rises lt r.1.now) runs
    pub order : Rises (λ a b. begins_lower lt a.1.now b.1.now) runs
