-- The common machine: a word for each key, which the first value takes, and what each pass won and was refused.
use Rattle.std.specs.Prelude.{◌≡◌, ◌≢◌, ℕ, ℤ, ◌<◌, ◌≤◌, ◌==◌, ◌⊎◌, cond, List, [], ◌∷◌, ◌++◌, All, map, length, slice_index}
use Rattle.std.specs.Int.{cast_signed}
use mir.Syntax.{w64}
use Rattle.mr_base.specs.Tasks.{times}
use Rattle.mr_base.specs.Totals.{total, Each}
use Rattle.mr_common.specs.declared.view.View.{View}

-- an empty word: the bits of -9223372036854775808
abbrev pub EMPTY : ℕ
EMPTY = 9223372036854775808

abbrev pub view : ℕ → List (ℕ × ℤ) → List ℕ → View
view weight won refused = record { weight = weight; won = won; refused = refused }

abbrev pub keys : List (ℕ × ℤ) → List ℕ
keys pairs = map (λ p. p.0) pairs

-- the word of the pair's key holds its value
abbrev pub IsHeld : ℕ → List ℕ → ℕ × ℤ → Type 0
IsHeld n words p = (p.0 < n) × (cast_signed w64 (slice_index words p.0) ≡ p.1) × (slice_index words p.0 ≢ EMPTY)

-- the word of the key holds some value
abbrev pub IsFull : ℕ → List ℕ → ℕ → Type 0
IsFull n words k = (k < n) × (slice_index words k ≢ EMPTY)

-- what a view won is held, what it was refused was full, and with no weight it has neither
abbrev pub IsView : ℕ → List ℕ → View → Type 0
IsView n words v = All (IsHeld n words) v.won × All (IsFull n words) v.refused × (v.weight ≡ 0 → (v.won ≡ []) × (v.refused ≡ []))

pub record IsLawful (n passes : ℕ) (words : List ℕ) (views : List View) : Type 0 where
  pub len : length words ≡ n
  pub each : Each (IsView n words) views
  pub weights : total (λ v. v.weight) views ≡ passes
  -- a key was won once where its word is not empty, and else never
  pub won : (k : ℕ) → k < n → total (λ v. times k (keys v.won)) views ≡ cond (slice_index words k == EMPTY) 0 1
  pub outside : (k : ℕ) → n ≤ k → total (λ v. times k (keys v.won)) views ≡ 0

-- what an exchange of the word of k for x tells, where the word was found. No key is won twice
abbrev pub Exchanged : ℕ → ℕ → View → ℕ → View → Type 0
Exchanged k x v found w = ((j : ℕ) → times j (keys w.won) ≤ 1)
    × (((found ≡ EMPTY) × (w ≡ view v.weight (v.won ++ (k, cast_signed w64 x) ∷ []) v.refused))
    ⊎ ((found ≢ EMPTY) × (w ≡ view v.weight v.won (v.refused ++ k ∷ []))))
