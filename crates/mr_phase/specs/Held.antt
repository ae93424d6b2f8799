-- What a worker holds during a map phase.
use Rattle.std.specs.Prelude.{◌≡◌, ℕ, Bool, false, List, [], ◌∷◌, ◌++◌, All, flat_map}
use Rattle.mr_phase.specs.declared.hands.Hand.{Hand}
use Rattle.mr_phase.specs.declared.hands.Held.{Held}

-- each hand that it gave away stands for what its tasks emit, as does the local for what the tasks since then emit; in order these are the
-- tasks that it took; and a worker that does not spill has given no hand away
pub record HoldsFor {L E : Type 0} (spills : Bool) (stands : L → List E → Type 0) (emits : ℕ → List E) (held : Held L) (tasks : List ℕ)
    : Type 0 where
  pub given : All (λ h. stands h.local (flat_map emits h.tasks.items)) held.hands.items
  pub since : stands held.local (flat_map emits held.tasks.items)
  pub together : flat_map (λ h. h.tasks.items) held.hands.items ++ held.tasks.items ≡ tasks
  pub alone : spills ≡ false → held.hands.items ≡ []

-- the locals come from the same place
abbrev pub IsOfOrigin : {L : Type 0} → (L → L → Type 0) → Held L → Held L → Type 0
IsOfOrigin same_origin old new = same_origin old.local new.local

-- the hands that it gave away, and the last one
abbrev pub hands_held : {L : Type 0} → Held L → List (Hand L)
hands_held held = held.hands.items ++ record { tasks = held.tasks; local = held.local } ∷ []
