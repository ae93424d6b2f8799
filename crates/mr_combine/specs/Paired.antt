-- Two combiners side by side.
use Rattle.std.specs.Prelude.{◌≡◌, Bool, true, false, ◌||◌, ℤ, List, [], ◌∷◌, ◌++◌, if◌then◌else◌, Option, Some, None, option_map}
use Rattle.std.specs.Prelude.{option_and_then, IfSome}
use Rattle.std.proofs.Common.{refl, ap, subst, ◌∙◌}
use Rattle.mr_defs.specs.Commutative.{IsCommutative}
use Rattle.mr_defs.specs.Emission.{Answer}
use Rattle.mr_defs.specs.Folded.{both_folded}
use Rattle.mr_defs.specs.Stands.{cell_of}
use Rattle.mr_combine.specs.Cells.{cell_read}
use Rattle.mr_combine.specs.Fold.{outcome, IsFoldOf}

abbrev pub side_by_side : {A B : Type 0} → (A → A → A) → (B → B → B) → A × B → A × B → A × B
side_by_side f g x y = (f x.0 y.0, g x.1 y.1)

-- one of the two is over
abbrev pub either_over : {A B : Type 0} → (A → Bool) → (B → Bool) → A × B → Bool
either_over o u x = o x.0 || u x.1

module _ {A B : Type 0} {f : A → A → A} {g : B → B → B} where
  pub side_commutative : IsCommutative f → IsCommutative g → IsCommutative (side_by_side f g)
  side_commutative p q = record {
    comm = λ x y. λ i. (p.comm x.0 y.0 i, q.comm x.1 y.1 i);
    assoc = λ x y z. λ i. (p.assoc x.0 y.0 z.0 i, q.assoc x.1 y.1 z.1 i);
  }

or_true : (c : Bool) → (c || true) ≡ true
or_true true = refl
or_true false = refl

over_either : (a b c d : Bool) → (a ≡ true → c ≡ true) → (b ≡ true → d ≡ true) → (a || b) ≡ true → (c || d) ≡ true
over_either true b c d f g h = ap (λ t. t || d) (f refl)
over_either false b c d f g h = ap (λ t. c || t) (g h) ∙ or_true c

pub side_stays : {A B : Type 0} (f : A → A → A) (g : B → B → B) (o : A → Bool) (u : B → Bool)
    → ((x y : A) → o x ≡ true → o (f x y) ≡ true) → ((x y : B) → u x ≡ true → u (g x y) ≡ true)
    → (x y : A × B) → either_over o u x ≡ true → either_over o u (side_by_side f g x y) ≡ true
side_stays f g o u p q x y h = over_either (o x.0) (u x.1) (o (f x.0 y.0)) (u (g x.1 y.1)) (p x.0 y.0) (q x.1 y.1) h

module _ {A B : Type 0} (a : ℤ → A) (b : ℤ → B) (f : A → A → A) (g : B → B → B) where
  abbrev both : List ℤ → Option (A × B)
  both vs = cell_of (λ v. (a v, b v)) (side_by_side f g) vs

  first_cell : (vs : List ℤ) → cell_of a f vs ≡ option_map (λ c. c.0) (both vs)
  first_cell vs = cell_read (side_by_side f g) (λ v. (a v, b v)) f a (λ c. c.0) (λ v. refl) (λ x y. refl) vs

  second_cell : (vs : List ℤ) → cell_of b g vs ≡ option_map (λ c. c.1) (both vs)
  second_cell vs = cell_read (side_by_side f g) (λ v. (a v, b v)) g b (λ c. c.1) (λ v. refl) (λ x y. refl) vs

  module _ (o : A → Bool) (u : B → Bool) (n : A → ℤ) (m : B → ℤ) where
    abbrev both_outcome : A × B → Option Answer
    both_outcome c = outcome (either_over o u) (λ c. n c.0 ∷ m c.1 ∷ []) c

    outcomes : (c : A × B) (s t : Bool)
        → option_and_then (λ l. option_map (λ r. l ++ r) (if t then None else Some (m c.1 ∷ []))) (if s then None else Some (n c.0 ∷ []))
        ≡ (if s || t then None else Some (n c.0 ∷ m c.1 ∷ []))
    outcomes c true true = refl
    outcomes c true false = refl
    outcomes c false true = refl
    outcomes c false false = refl

    module _ (folded : List ℤ → Option Answer) (second : List ℤ → Option Answer) where
      answered : (vs : List ℤ) (c : Option (A × B))
          → IfSome (option_map (λ c. c.0) c) (λ c. folded vs ≡ outcome o (λ c. n c ∷ []) c)
          → IfSome (option_map (λ c. c.1) c) (λ c. second vs ≡ outcome u (λ c. m c ∷ []) c)
          → IfSome c (λ c. both_folded folded second vs ≡ both_outcome c)
      answered vs None p q = tt
      answered vs (Some c) p q = (λ i. option_and_then (λ l. option_map (λ r. l ++ r) (q i)) (p i)) ∙ outcomes c (o c.0) (u c.1)

      pub both_is_fold : IsFoldOf a f o (λ c. n c ∷ []) folded → IsFoldOf b g u (λ c. m c ∷ []) second
          → IsFoldOf (λ v. (a v, b v)) (side_by_side f g) (either_over o u) (λ c. n c.0 ∷ m c.1 ∷ []) (both_folded folded second)
      both_is_fold p q vs = answered vs (both vs)
          (subst (λ c. IfSome c (λ c. folded vs ≡ outcome o (λ c. n c ∷ []) c)) (first_cell vs) (p vs))
          (subst (λ c. IfSome c (λ c. second vs ≡ outcome u (λ c. m c ∷ []) c)) (second_cell vs) (q vs))
