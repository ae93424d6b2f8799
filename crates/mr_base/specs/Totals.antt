-- What several views of one rule have in all, for queues that threads share.
use Rattle.std.specs.Prelude.{◌≡◌, ℕ, ◌+◌, List, [], ◌∷◌}
use mathlib.Core.Option.{some}
use lib.ListN.{get_elem?}

-- f of each, added up
abbrev pub total : {V : Type 0} → (V → ℕ) → List V → ℕ
total f [] = 0
total f (v ∷ vs) = f v + total f vs

-- F holds of each view
abbrev pub Each : {V : Type 0} → (V → Type 0) → List V → Type 0
Each {V} F views = (i : ℕ) (v : V) → get_elem? views i ≡ some v → F v
