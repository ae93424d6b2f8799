-- The claim machine: numbers that count up, one for each queue, and what each pass was given and has seen.
use Rattle.std.specs.Prelude.{◌≡◌, ℕ, ◌+◌, ◌*◌, ◌/◌, ◌<◌, ◌≤◌, ◌⊎◌, ◌&&◌, cond, nat_lt, nat_le, List, [], ◌∷◌, ◌++◌, length, slice_index}
use Rattle.std.specs.Prelude.{count_by}
use Rattle.mr_defs.specs.Tasks.{most_tasks}
use Rattle.mr_base.specs.Tasks.{times, start_of, IsApartBelow}
use Rattle.mr_base.specs.Totals.{total, Each}
use Rattle.mr_claims.specs.declared.view.View.{View}

abbrev pub view : ℕ → ℕ → ℕ → List ℕ → List ℕ → View
view tasks queues weight given ends = record { tasks = tasks; queues = queues; weight = weight; given = given; ends = ends }

-- where the tasks of queue q end
abbrev pub end_of : ℕ → ℕ → ℕ → ℕ
end_of tasks queues q = start_of tasks queues (q + 1)

-- the word of queue q among words of which every eighth is used, so that no two of these lie in one cache line; the queue of such a word;
-- and the next number of the queue, which stands there
abbrev pub word_of : ℕ → ℕ
word_of q = q * 8

abbrev pub queue_of : ℕ → ℕ
queue_of word = word / 8

abbrev pub next_of : List ℕ → ℕ → ℕ
next_of words q = slice_index words (word_of q)

-- how many of the numbers are from a up to but not including b
abbrev pub within : ℕ → ℕ → List ℕ → ℕ
within a b xs = count_by (λ x. nat_le a x && nat_lt x b) xs

-- a view knows the machine, has seen no end more often than its weight, and with no weight has no task
abbrev pub IsView : ℕ → ℕ → View → Type 0
IsView tasks queues v =
    (0 < v.weight → (v.tasks ≡ tasks) × (v.queues ≡ queues)) × ((q : ℕ) → times q v.ends ≤ v.weight) × (v.weight ≡ 0 → v.given ≡ [])

-- the next number is no less than the start; no end was seen while it was the end or less, and from the end on it counts the ends seen
abbrev pub IsNext : ℕ → ℕ → ℕ → ℕ → Type 0
IsNext start end next ends = (start ≤ next) × (next ≤ end → ends ≡ 0) × (end ≤ next → next ≡ end + ends)

pub record IsLawful (tasks queues : ℕ) (words : List ℕ) (views : List View) : Type 0 where
  pub small : (tasks ≤ most_tasks) × (0 < queues) × (queues ≤ 32) × (length words ≡ queues * 8)
  pub each : Each (IsView tasks queues) views
  pub weights : total (λ v. v.weight) views ≡ queues
  -- the tasks of q that were given are those below its next number, each once
  pub given : (q x : ℕ) → q < queues → start_of tasks queues q ≤ x → x < end_of tasks queues q
      → total (λ v. times x v.given) views ≡ cond (nat_lt x (next_of words q)) 1 0
  -- and nothing else was
  pub beyond : (x : ℕ) → tasks ≤ x → total (λ v. times x v.given) views ≡ 0
  -- the next number has counted the tasks of q that were given and the ends of q that were seen
  pub counted : (q : ℕ) → q < queues
      → next_of words q ≡ start_of tasks queues q + total (λ v. within (start_of tasks queues q) (end_of tasks queues q) v.given) views
      + total (λ v. times q v.ends) views
  pub next : (q : ℕ) → q < queues
      → IsNext (start_of tasks queues q) (end_of tasks queues q) (next_of words q) (total (λ v. times q v.ends) views)

-- what a claim of q tells, where its next number was n
abbrev pub Claimed : ℕ → View → ℕ → View → Type 0
Claimed q v n w = IsApartBelow v.tasks w.given
    × (((n < end_of v.tasks v.queues q) × (w ≡ view v.tasks v.queues v.weight (v.given ++ n ∷ []) v.ends))
    ⊎ ((end_of v.tasks v.queues q ≤ n) × (w ≡ view v.tasks v.queues v.weight v.given (v.ends ++ q ∷ []))))
