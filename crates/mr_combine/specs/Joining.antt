-- Values joined by an operation that has no limit.
use Rattle.std.specs.Prelude.{◌≡◌, ℕ, Bool, true, false, ℤ, pos, List, [], ◌∷◌, map, Option, Some, None, option_map, IfSome}
use Rattle.std.specs.List.{reduce}
use Rattle.std.specs.Int.{cast_signed, cast_unsigned, w64}
use Rattle.std.proofs.lemmas.List.{map-id}
use Rattle.std.proofs.Common.{refl, sym, ap, ◌∙◌}
use mathlib.Core.Bool.{false≢true}
use Rattle.mr_defs.specs.Commutative.{IsCommutative, joined}
use Rattle.mr_defs.specs.Emission.{Answer}
use Rattle.mr_defs.specs.Folded.{bits_folded, one_folded}
use Rattle.mr_defs.specs.Stands.{cell_of}
use Rattle.mr_defs.proofs.Folds.{reduce-joined_by}
use Rattle.mr_combine.specs.Fold.{outcome, IsFoldOf}

-- that no cell is over
abbrev pub never : {C : Type 0} → C → Bool
never c = false

pub never_stays : {C : Type 0} (op : C → C → C) (a b : C) → never a ≡ true → never (op a b) ≡ true
never_stays op a b h = absurd (false≢true h)

-- what is kept of the values, joined, answers their fold
abbrev pub Joins : {S : Type 0} → (ℤ → S) → (S → ℤ) → (S → S → S) → (List ℤ → Option Answer) → Type 0
Joins scalar number op folded = (v : ℤ) (vs : List ℤ) → folded (v ∷ vs) ≡ option_map (λ s. number s ∷ []) (reduce op (map scalar (v ∷ vs)))

module _ {S : Type 0} (scalar : ℤ → S) (number : S → ℤ) (op : S → S → S) (laws : IsCommutative op) where
  scalars_joined : (vs : List ℤ) → cell_of scalar op vs ≡ reduce op (map scalar vs)
  scalars_joined [] = refl
  scalars_joined (v ∷ vs) =
      ap (joined op (Some (scalar v))) (scalars_joined vs ∙ reduce-joined_by laws (map scalar vs))
      ∙ sym (reduce-joined_by laws (scalar v ∷ map scalar vs))

  answered : (c : Option S) (f : Option Answer) → f ≡ option_map (λ s. number s ∷ []) c
      → IfSome c (λ s. f ≡ outcome never (λ s. number s ∷ []) s)
  answered None f e = tt
  answered (Some s) f e = e

  pub joining_is_fold : (folded : List ℤ → Option Answer) → Joins scalar number op folded
      → IsFoldOf scalar op never (λ s. number s ∷ []) folded
  joining_is_fold folded joins [] = tt
  joining_is_fold folded joins (v ∷ vs) =
      answered (cell_of scalar op (v ∷ vs)) (folded (v ∷ vs))
      (joins v vs ∙ ap (option_map (λ s. number s ∷ [])) (sym (scalars_joined (v ∷ vs))))

-- of numbers that are kept as they are
pub numbers_join : (op : ℤ → ℤ → ℤ) → Joins (λ v. v) (λ s. s) op (λ vs. option_map (λ v. v ∷ []) (reduce op vs))
numbers_join op v vs = ap (λ l. option_map (λ s. s ∷ []) (reduce op (v ∷ l))) (sym (map-id vs))

-- of the bits in two's complement
pub bits_join : (op : ℕ → ℕ → ℕ) → Joins (cast_unsigned w64) (cast_signed w64) op (bits_folded op)
bits_join op v vs = refl

-- of presence
abbrev pub both_there : Unit {0} → Unit {0} → Unit {0}
both_there a b = tt

pub there_commutative : IsCommutative both_there
there_commutative = record { comm = λ x y. refl; assoc = λ x y z. refl }

pub there_join : Joins (λ _. tt) (λ _. pos 1) both_there one_folded
there_join v vs = refl
