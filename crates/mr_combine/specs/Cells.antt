-- The cell of some values, where it is a reading of what the values come to.
use Rattle.std.specs.Prelude.{◌≡◌, Bool, List, [], ◌∷◌, Option, Some, None, option_map, IfSome}
use Rattle.std.proofs.Common.{refl, sym, ap, subst, ◌∙◌}
use Rattle.mr_defs.specs.Commutative.{joined}
use Rattle.mr_defs.specs.Emission.{Answer}
use Rattle.mr_defs.specs.Stands.{cell_of}
use Rattle.mr_combine.specs.Fold.{outcome, IsFoldOf}

-- what a list of values comes to, where each value comes to g of it
pub record IsTotal {V A : Type 0} (op : A → A → A) (g : V → A) (total : List V → A) : Type 0 where
  pub one : (v : V) → op (g v) (total []) ≡ g v
  pub more : (v : V) (vs : List V) → total (v ∷ vs) ≡ op (g v) (total vs)

module _
    {V A C : Type 0}
    (op : A → A → A)
    (g : V → A)
    (merged : C → C → C)
    (unit : V → C)
    (read : A → C)
    (units : (v : V) → unit v ≡ read (g v))
    (reads : (a b : A) → merged (read a) (read b) ≡ read (op a b))
  where
    one_read : (v : V) (o : Option A) → joined merged (Some (unit v)) (option_map read o) ≡ option_map read (joined op (Some (g v)) o)
    one_read v None = ap Some (units v)
    one_read v (Some a) = ap (λ c. Some (merged c (read a))) (units v) ∙ ap Some (reads (g v) a)

    pub cell_read : (vs : List V) → cell_of unit merged vs ≡ option_map read (cell_of g op vs)
    cell_read [] = refl
    cell_read (v ∷ vs) = ap (joined merged (Some (unit v))) (cell_read vs) ∙ one_read v (cell_of g op vs)

    module _ (total : List V → A) (sums : IsTotal op g total) where
      cell_total : (v : V) (vs : List V) → cell_of g op (v ∷ vs) ≡ Some (total (v ∷ vs))
      cell_total v [] = ap Some (sym (sums.more v [] ∙ sums.one v))
      cell_total v (w ∷ ws) = ap (joined op (Some (g v))) (cell_total w ws) ∙ ap Some (sym (sums.more v (w ∷ ws)))

      pub total_is_fold : (over : C → Bool) (answer : C → Answer) (folded : List V → Option Answer)
          → ((vs : List V) → folded vs ≡ outcome over answer (read (total vs))) → IsFoldOf unit merged over answer folded
      total_is_fold over answer folded is [] = tt
      total_is_fold over answer folded is (v ∷ vs) =
          let e : cell_of unit merged (v ∷ vs) ≡ Some (read (total (v ∷ vs))) =
          cell_read (v ∷ vs) ∙ ap (option_map read) (cell_total v vs) in
          subst (λ c. IfSome c (λ c. folded (v ∷ vs) ≡ outcome over answer c)) (sym e) (is (v ∷ vs))
