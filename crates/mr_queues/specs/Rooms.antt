-- Passes, of which the first has room for all.
use Rattle.std.specs.Prelude.{◌≡◌, ℕ, ◌≤◌, List, [], ◌∷◌, length, map, Option, Some}
use Rattle.mr_base.specs.Spare.{Spared}

-- it is empty, and takes so many
abbrev pub IsRoom : {P : Type 0} → ℕ → Spared P → Type 0
IsRoom count room = (room.items ≡ []) × (count ≤ room.spare)

-- the first pass, where there is one, has room for so many
abbrev pub HasFirst : {P : Type 0} → ℕ → List (P × Spared P) → Type 0
HasFirst count [] = Unit {0}
HasFirst count (r ∷ rs) = IsRoom count r.1

-- they are these passes as passes of any kind, the first with room for so many
pub record AreRoomed {P A : Type 0} (any : P × Spared P → A) (count : ℕ) (passes : List P) (all : List A) : Type 0 where
  pub roomed : List (P × Spared P)
  pub are : all ≡ map any roomed
  pub own : map (λ r. r.0) roomed ≡ passes
  pub room : HasFirst count roomed

-- the first of the passes is of this kind and has room for all
abbrev pub HasRoom : {P A : Type 0} → (A → Option (P × Spared P)) → List A → Type 0
HasRoom within [] = ⊥
HasRoom {P} within (a ∷ all) = (r : P × Spared P) × (within a ≡ Some r) × IsRoom (length (a ∷ all)) r.1
