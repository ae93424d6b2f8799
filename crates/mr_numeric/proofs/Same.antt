-- Items that emit the same.
use Rattle.std.proofs.Common.{◌≡◌, ℕ, zero, suc, ◌+◌, ◌<◌, Bool, true, false, cond, List, [], ◌∷◌, ◌++◌, refl, ap₂, arith}
use Rattle.std.specs.Prelude.{filter, flat_map}
use Rattle.std.specs.List.{AllByRecursion, range_with_len}
use Rattle.mr_defs.specs.Tasks.{Stretch, items_in, task_emissions}

pub all_numbers : (P : ℕ → Type 0) (a n : ℕ) → ((k : ℕ) → k < a + n → P k) → AllByRecursion P (range_with_len a n)
all_numbers P a zero h = tt
all_numbers P a (suc n) h = (h a (omega arith), all_numbers P (a + 1) n (λ k below. h k (omega (arith, below))))

all_of_some : (P : ℕ → Type 0) (q : ℕ → Bool) (xs : List ℕ) → AllByRecursion P xs → AllByRecursion P (filter q xs)
all_of_some P q [] h = tt
all_of_some P q (x ∷ xs) h = by (q x) (all_of_some P q xs h.1)
  where
    by : (t : Bool) → AllByRecursion P (filter q xs) → AllByRecursion P (cond t (x ∷ filter q xs) (filter q xs))
    by true rest = (h.0, rest)
    by false rest = rest

module _ {E : Type 0} (f g : ℕ → List E) where
  pub flat_map-same : (xs : List ℕ) → AllByRecursion (λ k. f k ≡ g k) xs → flat_map f xs ≡ flat_map g xs
  flat_map-same [] h = refl
  flat_map-same (x ∷ xs) h = ap₂ (λ l r. l ++ r) h.0 (flat_map-same xs h.1)

  module _ (n : ℕ) (same : (k : ℕ) → k < n → f k ≡ g k) where
    all_same : AllByRecursion (λ k. f k ≡ g k) (range_with_len 0 n)
    all_same = all_numbers (λ k. f k ≡ g k) 0 n (λ k below. same k (omega (arith, below)))

    -- all items, and those of a task
    pub items-same : flat_map f (range_with_len 0 n) ≡ flat_map g (range_with_len 0 n)
    items-same = flat_map-same (range_with_len 0 n) all_same

    pub task-same : (part : Stretch) → task_emissions f (range_with_len 0 n) part ≡ task_emissions g (range_with_len 0 n) part
    task-same part = flat_map-same (items_in part (range_with_len 0 n)) (all_of_some _ _ (range_with_len 0 n) all_same)
