-- The deque machine: tasks and, behind them, end marks, which leave at the front in their order, and what each pass knows of the deque.
use Rattle.std.specs.Prelude.{◌≡◌, ℕ, zero, suc, ◌+◌, ◌-◌, ◌<◌, ◌≤◌, ◌⊎◌, Bool, true, false, cond, nat_lt, List, [], ◌∷◌, ◌++◌}
use Rattle.mr_base.specs.Tasks.{times}
use Rattle.mr_base.specs.Totals.{total, Each}
use Rattle.mr_deques.specs.declared.view.View.{View}
use Rattle.mr_deques.specs.declared.view.About.{About}

-- the n numbers from a on
abbrev pub count_from : ℕ → ℕ → List ℕ
count_from a zero = []
count_from a (suc n) = a ∷ count_from (suc a) n

-- how many numbers of the list are end marks
abbrev pub marks : ℕ → List ℕ → ℕ
marks e [] = 0
marks e (x ∷ xs) = cond (nat_lt x e) 0 1 + marks e xs

abbrev pub about : ℕ → ℕ → ℕ → About
about start end passes = record { start = start; end = end; passes = passes }

abbrev pub view : About → ℕ → ℕ → List ℕ → Bool → View
view a pushed weight list full = record { about = a; pushed = pushed; weight = weight; list = list; full = full }

-- a view that knows nothing
abbrev pub blank : View
blank = view (about 0 0 0) 0 0 [] false

-- the owner's view before its first push
abbrev pub first : View
first = view (about 0 0 0) 0 1 [] false

-- a view before the first push
abbrev pub IsIdle : View → Type 0
IsIdle v = (v ≡ first) ⊎ (v ≡ blank)

-- a view with weight knows which deque it is; where it is full all numbers were pushed, and before that it has the whole weight; it has no
-- more end marks than weight, and with no weight nothing
abbrev pub IsView : About → ℕ → View → Type 0
IsView a pushed v = (0 < v.weight → v.about ≡ a)
    × (v.full ≡ true → pushed ≡ a.end + a.passes)
    × (0 < v.weight → v.full ≡ false → (v.weight ≡ a.passes) × (v.pushed ≡ pushed))
    × (marks a.end v.list ≤ v.weight)
    × (v.weight ≡ 0 → (v.list ≡ []) × (v.full ≡ false))

-- from the first push on: the numbers from f up to but not including `pushed` are in the deque
pub record Begun (a : About) (f pushed : ℕ) (items : List ℕ) (views : List View) : Type 0 where
  pub range : (a.start ≤ a.end) × (0 < a.passes)
  pub order : (a.start ≤ f) × (f ≤ pushed) × (pushed ≤ a.end + a.passes)
  pub content : items ≡ count_from f (pushed - f)
  pub each : Each (IsView a pushed) views
  pub weights : total (λ v. v.weight) views ≡ a.passes
  -- the numbers that have left stand in the lists, each once
  pub left : (x : ℕ) → total (λ v. times x v.list) views ≡ cond (nat_lt x a.start) 0 (cond (nat_lt x f) 1 0)
  pub left_marks : total (λ v. marks a.end v.list) views ≡ f - a.end

abbrev pub IsLawful : List ℕ → List View → Type 0
IsLawful items views = ((items ≡ []) × Each IsIdle views × (total (λ v. v.weight) views ≡ 1))
    ⊎ ((a : About) × (f : ℕ) × (pushed : ℕ) × Begun a f pushed items views)

-- a view that may take: it is full, and has weight 1 and no end mark
abbrev pub MayTake : View → Type 0
MayTake v = (v.full ≡ true) × (v.weight ≡ 1) × (marks v.about.end v.list ≡ 0)

-- one number came out, which this view had not, as no view has a number twice
abbrev pub Took : View → List ℕ → View → Type 0
Took v xs w = (x : ℕ) × (xs ≡ x ∷ []) × (w ≡ view v.about v.pushed v.weight (v.list ++ x ∷ []) true) × (v.about.start ≤ x)
    × (x < v.about.end + v.about.passes)
    × ((y : ℕ) → times y w.list ≤ cond (nat_lt y v.about.start) 0 1)

-- who has the whole weight and an end mark has all tasks
abbrev pub HasAll : View → Type 0
HasAll v = (v.full ≡ true) → (v.weight ≡ v.about.passes) → 1 ≤ marks v.about.end v.list
    → (x : ℕ) → v.about.start ≤ x → x < v.about.end → times x v.list ≡ 1
