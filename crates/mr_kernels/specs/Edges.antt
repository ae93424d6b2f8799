-- The bits of a mask, and where the runs of a list begin and end.
use Rattle.std.specs.Prelude.{ℕ, zero, suc, ◌+◌, ◌/◌, ◌%◌, ◌==◌, Bool, if◌then◌else◌, List, [], ◌∷◌, length, flat_map}
use Rattle.mr_items.specs.Runs.{run_at, run_places}

-- so many bits of a number, the lowest first
unfoldable pub bits : ℕ → ℕ → List Bool
bits zero n = []
bits (suc k) n = (n % 2 == 1) ∷ bits k (n / 2)

-- the numbers of the elements that are true, counted from a base
abbrev pub set_places : ℕ → List Bool → List ℕ
set_places base [] = []
set_places base (b ∷ bs) = if b then base ∷ set_places (base + 1) bs else set_places (base + 1) bs

-- the first place of each run and the one behind its last
abbrev pub run_edges : (ℕ → Bool) → List ℕ → List ℕ
run_edges test xs = flat_map (λ p. p ∷ (p + length (run_at test xs p)) ∷ []) (run_places test xs)
