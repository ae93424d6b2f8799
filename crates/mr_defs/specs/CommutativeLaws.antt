-- What two or many come to by a commutative operation: neither order nor grouping counts.
use Rattle.std.specs.Prelude.{◌≡◌, ℕ, zero, suc, ◌<◌, List, [], ◌∷◌, ◌++◌, length, Option, Some, None, get_or, set}
use Rattle.std.specs.List.{swap}
use Rattle.std.specs.List.Sorted.{IsPermutation}
use Rattle.std.proofs.Common.{refl, sym, ap, ◌∙◌, arith}
use Rattle.std.proofs.lemmas.List.Sorted.{IsPermutation-keeps}
use Rattle.mr_defs.specs.Commutative.{IsCommutative, joined, joined_by}

module _ {A : Type 0} {op : A → A → A} (laws : IsCommutative op) where
  pub joined-none : (a : Option A) → joined op a None ≡ a
  joined-none None = refl
  joined-none (Some a) = refl

  pub joined-comm : (a b : Option A) → joined op a b ≡ joined op b a
  joined-comm None None = refl
  joined-comm None (Some b) = refl
  joined-comm (Some a) None = refl
  joined-comm (Some a) (Some b) = ap Some (laws.comm a b)

  pub joined-assoc : (a b c : Option A) → joined op (joined op a b) c ≡ joined op a (joined op b c)
  joined-assoc None b c = refl
  joined-assoc (Some a) None c = refl
  joined-assoc (Some a) (Some b) None = refl
  joined-assoc (Some a) (Some b) (Some c) = ap Some (laws.assoc a b c)

  pub joined-left_comm : (a b c : Option A) → joined op a (joined op b c) ≡ joined op b (joined op a c)
  joined-left_comm a b c = sym (joined-assoc a b c) ∙ ap (λ s. joined op s c) (joined-comm a b) ∙ joined-assoc b a c

  module _ {X : Type 0} (g : X → Option A) where
    pub joined_by-append : (xs ys : List X) → joined_by op g (xs ++ ys) ≡ joined op (joined_by op g xs) (joined_by op g ys)
    joined_by-append [] ys = refl
    joined_by-append (x ∷ xs) ys =
        ap (joined op (g x)) (joined_by-append xs ys)
        ∙ sym (joined-assoc (g x) (joined_by op g xs) (joined_by op g ys))

    -- x for the item at j
    exchanged : (x : X) (t : List X) (j : ℕ) (d : X) → j < length t
        → joined op (g (get_or t j d)) (joined_by op g (set t j x)) ≡ joined op (g x) (joined_by op g t)
    exchanged x [] j d h = absurd (omega (arith, h))
    exchanged x (y ∷ t) zero d h = joined-left_comm (g y) (g x) (joined_by op g t)
    exchanged x (y ∷ t) (suc j) d h =
        joined-left_comm (g (get_or t j d)) (g y) (joined_by op g (set t j x))
        ∙ ap (joined op (g y)) (exchanged x t j d (omega arith))
        ∙ joined-left_comm (g y) (g x) (joined_by op g t)

    swapped : (l : List X) (i j : ℕ) (d : X) → i < length l → j < length l
        → joined_by op g (set (set l i (get_or l j d)) j (get_or l i d)) ≡ joined_by op g l
    swapped [] i j d h k = absurd (omega (arith, h))
    swapped (x ∷ t) zero zero d h k = refl
    swapped (x ∷ t) zero (suc j) d h k = exchanged x t j d (omega arith)
    swapped (x ∷ t) (suc i) zero d h k = exchanged x t i d (omega arith)
    swapped (x ∷ t) (suc i) (suc j) d h k = ap (joined op (g x)) (swapped t i j d (omega arith) (omega arith))

    swap_keeps : (l : List X) (i j : ℕ) → i < length l → j < length l → joined_by op g (swap l i j) ≡ joined_by op g l
    swap_keeps [] i j h k = refl
    swap_keeps (x ∷ t) i j h k = swapped (x ∷ t) i j x h k

    pub joined_by-IsPermutation : (xs ys : List X) → IsPermutation xs ys → joined_by op g ys ≡ joined_by op g xs
    joined_by-IsPermutation xs ys p =
        IsPermutation-keeps xs (λ l. joined_by op g l ≡ joined_by op g xs) refl
        (λ l i j h k e. swap_keeps l i j h k ∙ e) ys p

    pub joined_by-push : (xs : List X) (x : X) → joined_by op g (xs ++ x ∷ []) ≡ joined op (joined_by op g xs) (g x)
    joined_by-push xs x = joined_by-append xs (x ∷ []) ∙ ap (joined op (joined_by op g xs)) (joined-none (g x))
