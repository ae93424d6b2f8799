-- How the numbers of tasks are split among queues, and which of them the passes of the queues were given.
use Rattle.std.specs.Prelude.{◌≡◌, ℕ, ◌+◌, ◌-◌, ◌*◌, ◌/◌, ◌<◌, ◌≤◌, ◌==◌, Bool, true, false, cond, nat_lt, List, [], ◌∷◌, length, map}
use Rattle.std.specs.Prelude.{flat_map, sum_by, slice_index_or}
use Rattle.std.specs.List.{range_with_len}
use Rattle.std.specs.List.Sorted.{IsPermutation}
use Rattle.mr_defs.specs.Tasks.{Stretch}

-- the first task of queue q, where the tasks are split as evenly as their number allows
abbrev pub start_of : ℕ → ℕ → ℕ → ℕ
start_of tasks queues q = (q * tasks) / queues

abbrev pub range_of : ℕ → ℕ → ℕ → Stretch
range_of tasks queues q = (start_of tasks queues q, start_of tasks queues (q + 1))

-- the tasks of each queue, in the order of the queues
abbrev pub ranges_of : ℕ → ℕ → List Stretch
ranges_of tasks queues = map (range_of tasks queues) (range_with_len 0 queues)

-- how many tasks the ranges have together
abbrev pub total_of : List Stretch → ℕ
total_of ranges = sum_by (λ r. r.1 - r.0) ranges

-- how often x stands in the list
abbrev pub times : ℕ → List ℕ → ℕ
times x [] = 0
times x (y ∷ ys) = cond (y == x) 1 0 + times x ys

-- no number stands twice, and each is below n
abbrev pub IsApartBelow : ℕ → List ℕ → Type 0
IsApartBelow n xs = (x : ℕ) → times x xs ≤ cond (nat_lt x n) 1 0

-- each task below n stands once in the lists of the passes, and nothing else does
abbrev pub AreAllGiven : {P : Type 0} → ℕ → (P → List ℕ) → List P → Type 0
AreAllGiven n given passes = IsPermutation (range_with_len 0 n) (flat_map given passes)

-- at each place a pass of the queues, with the number of its place
abbrev pub AreAll : {P : Type 0} → ℕ → (P → Type 0) → (P → ℕ) → List P → Type 0
AreAll {P} count is_of number ps =
    (length ps ≡ count) × ((i : ℕ) (d : P) → i < count → is_of (slice_index_or ps i d) × (number (slice_index_or ps i d) ≡ i))

-- none of the passes was given a task or has answered None
abbrev pub AreUnused : {P : Type 0} → (P → List ℕ) → (P → Bool) → List P → Type 0
AreUnused {P} given ended ps =
    (i : ℕ) (d : P) → i < length ps → (given (slice_index_or ps i d) ≡ []) × (ended (slice_index_or ps i d) ≡ false)

-- each of the passes has answered None
abbrev pub HaveEnded : {P : Type 0} → (P → Bool) → List P → Type 0
HaveEnded {P} ended ps = (i : ℕ) (d : P) → i < length ps → ended (slice_index_or ps i d) ≡ true
