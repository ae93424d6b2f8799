-- What the workers of a map phase have before it and after it.
use Rattle.std.specs.Prelude.{◌≡◌, ℕ, ◌<◌, ◌+◌, ◌-◌, Bool, true, false, List, [], flat_map, length, slice_index_or}
use Rattle.std.specs.List.Sorted.{IsPermutation}
use Rattle.mr_phase.specs.declared.map.Work.{Work}
use Rattle.mr_phase.specs.declared.hands.Hand.{Hand}

module _ {P L E : Type 0} (is_of : P → Type 0) (number : P → ℕ) (given : P → List ℕ) (stands : L → List E → Type 0) where
  abbrev pub IsFresh : Work P L → Type 0
  IsFresh w =
      is_of w.pass × (w.worker ≡ number w.pass) × (given w.pass ≡ []) × (w.tasks.items ≡ []) × stands w.local [] × (w.starved ≡ false)

  abbrev pub AreFresh : List (Work P L) → Type 0
  AreFresh ws = (i : ℕ) (d : Work P L) → i < length ws → IsFresh (slice_index_or ws i d)

module _ {P L E : Type 0} (is_of : P → Type 0) (number : P → ℕ) (given : P → List ℕ) (ended : P → Bool) (same_origin : L → L → Type 0)
    (stands : L → List E → Type 0) (emits : ℕ → List E) where
  -- a worker that found memory has taken until None, and its local stands for what its tasks emit, in their order
  abbrev pub IsDone : Work P L → Work P L → Type 0
  IsDone old new = is_of new.pass × (number new.pass ≡ number old.pass) × same_origin old.local new.local
      × (new.starved ≡ false
      → (ended new.pass ≡ true) × IsPermutation new.tasks.items (given new.pass) × stands new.local (flat_map emits new.tasks.items))

  abbrev pub AreDone : List (Work P L) → List (Work P L) → Type 0
  AreDone olds news = (i : ℕ) (d : Work P L) → i < length olds → IsDone (slice_index_or olds i d) (slice_index_or news i d)

-- worker i has the i-th pass and local from the end, and has done nothing
abbrev pub AreOf : {P L : Type 0} → List P → List L → List (Work P L) → Type 0
AreOf {P} {L} passes locals works = (length works ≡ length passes)
    × ((i : ℕ) (d : Work P L) → i < length works → let w = slice_index_or works i d in
    (w.worker ≡ length passes - (i + 1)) × (w.pass ≡ slice_index_or passes (length passes - (i + 1)) w.pass)
    × (w.local ≡ slice_index_or locals (length passes - (i + 1)) w.local) × (w.tasks.items ≡ []) × (w.starved ≡ false))

-- pass and hand i are those of the i-th worker from the end, which found memory
abbrev pub AreFrom : {P L : Type 0} → List (Work P L) → List P → List (Hand L) → Type 0
AreFrom {P} {L} works passes hands = (length passes ≡ length works) × (length hands ≡ length works)
    × ((i : ℕ) (d : Work P L) (p : P) (h : Hand L) → i < length works → let w = slice_index_or works (length works - (i + 1)) d in
    (slice_index_or passes i p ≡ w.pass) × ((slice_index_or hands i h).tasks ≡ w.tasks) × ((slice_index_or hands i h).local ≡ w.local)
    × (w.starved ≡ false))

-- the hand has the same tasks, and nothing has changed that contracts see of its local
abbrev pub IsSameHand : {L : Type 0} → (L → L → Type 0) → Hand L → Hand L → Type 0
IsSameHand same old new = (new.tasks ≡ old.tasks) × same old.local new.local

abbrev pub AreSameHands : {L : Type 0} → (L → L → Type 0) → List (Hand L) → List (Hand L) → Type 0
AreSameHands {L} same olds news = (length news ≡ length olds)
    × ((i : ℕ) (d : Hand L) → i < length olds → IsSameHand same (slice_index_or olds i d) (slice_index_or news i d))
