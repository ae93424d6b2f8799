-- A combination that is given up once it passes a bound, and stays so.
use Rattle.std.specs.Prelude.{◌≡◌, Bool, true, false, List, if◌then◌else◌, Option, Some, None}
use Rattle.std.specs.Option.{is_none}
use Rattle.std.proofs.Common.{refl, sym, ap, ◌∙◌}
use mathlib.Core.Bool.{false≢true}
use Rattle.mr_defs.specs.Commutative.{IsCommutative}
use Rattle.mr_defs.specs.Emission.{Answer}
use Rattle.mr_combine.specs.Fold.{outcome, IsFoldOf}
use Rattle.mr_combine.specs.Cells.{IsTotal, total_is_fold}

-- a where it is within the bound
abbrev pub within : {A : Type 0} → (A → Bool) → A → Option A
within fits a = if fits a then Some a else None

-- two joined, where each is within the bound and so is what they come to
abbrev pub joined_within : {A : Type 0} → (A → Bool) → (A → A → A) → Option A → Option A → Option A
joined_within fits op None b = None
joined_within fits op (Some a) None = None
joined_within fits op (Some a) (Some b) = within fits (op a b)

-- what is past the bound does not come back
abbrev pub IsBound : {A : Type 0} → (A → Bool) → (A → A → A) → Type 0
IsBound {A} fits op = (a b : A) → fits (op a b) ≡ true → fits a ≡ true

module _ {A : Type 0} (fits : A → Bool) (op : A → A → A) where
  none_right : (a : Option A) → joined_within fits op a None ≡ None
  none_right None = refl
  none_right (Some a) = refl

  pub over_stays : (a b : Option A) → is_none a ≡ true → is_none (joined_within fits op a b) ≡ true
  over_stays None b h = refl
  over_stays (Some a) b h = absurd (false≢true h)

module _ {A : Type 0} (fits : A → Bool) (op : A → A → A) (laws : IsCommutative op) (bound : IsBound fits op) where
  within_comm : (a b : Option A) → joined_within fits op a b ≡ joined_within fits op b a
  within_comm None None = refl
  within_comm None (Some b) = refl
  within_comm (Some a) None = refl
  within_comm (Some a) (Some b) = ap (within fits) (laws.comm a b)

  -- a is past the bound, and so is what comes of it
  past : (a c : A) → fits a ≡ false → (b : Bool) → fits (op a c) ≡ b → None ≡ (if b then Some (op a c) else None)
  past a c f true e = absurd (false≢true (sym f ∙ bound a c e))
  past a c f false e = refl

  with_third : (a c : A) → joined_within fits op (within fits a) (Some c) ≡ within fits (op a c)
  with_third a c = by (fits a) refl
    where
      by : (b : Bool) → fits a ≡ b → joined_within fits op (if b then Some a else None) (Some c) ≡ within fits (op a c)
      by true e = refl
      by false e = past a c e (fits (op a c)) refl

  within_assoc : (a b c : Option A)
      → joined_within fits op (joined_within fits op a b) c ≡ joined_within fits op a (joined_within fits op b c)
  within_assoc None b c = refl
  within_assoc (Some a) None c = refl
  within_assoc (Some a) (Some b) None = none_right fits op (within fits (op a b))
  within_assoc (Some a) (Some b) (Some c) =
      with_third (op a b) c
      ∙ ap (within fits) (laws.assoc a b c ∙ laws.comm a (op b c))
      ∙ sym (with_third (op b c) a)
      ∙ within_comm (within fits (op b c)) (Some a)

  pub within_commutative : IsCommutative (joined_within fits op)
  within_commutative = record { comm = within_comm; assoc = within_assoc }

  pub within_both : (a b : A) → joined_within fits op (within fits a) (within fits b) ≡ within fits (op a b)
  within_both a b = by (fits b) refl
    where
      by : (t : Bool) → fits b ≡ t → joined_within fits op (within fits a) (if t then Some b else None) ≡ within fits (op a b)
      by true e = with_third a b
      by false e = none_right fits op (within fits a) ∙ past b a e (fits (op b a)) refl ∙ ap (within fits) (laws.comm b a)

  module _ {V : Type 0} (g : V → A) (total : List V → A) (sums : IsTotal op g total) (answer : Option A → Answer) where
    within_outcome : (a : A) (b : Bool) → (if b then Some (answer (Some a)) else None) ≡ outcome is_none answer (if b then Some a else None)
    within_outcome a true = refl
    within_outcome a false = refl

    -- what the total of the values answers, where it is within the bound
    abbrev folded_within : List V → Option Answer
    folded_within vs = if fits (total vs) then Some (answer (Some (total vs))) else None

    pub within_is_fold : IsFoldOf (λ v. within fits (g v)) (joined_within fits op) is_none answer folded_within
    within_is_fold =
        total_is_fold op g (joined_within fits op) (λ v. within fits (g v)) (within fits)
        (λ v. refl) within_both total sums is_none answer folded_within
        (λ vs. within_outcome (total vs) (fits (total vs)))
