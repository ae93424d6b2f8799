-- Lists in the order of their first rows, and what is left of lists that is put to its place among others.
use Rattle.std.proofs.Common.{◌≡◌, ℕ, zero, suc, ◌<◌, ◌≤◌, Bool, true, false, true≢false, List, [], ◌∷◌, length, map, get_or, refl, sym, ap}
use Rattle.std.proofs.Common.{◌∙◌, arith}
use Rattle.std.specs.Borrow.{Bor}
use Rattle.mr_merge.specs.Lists.{lent}
use Rattle.std.specs.Cmp.{IsStrictWeakOrder}
use Rattle.std.specs.List.{All, AllWithin, insert}
use Rattle.std.proofs.lemmas.List.Elements.{All-head, All-tail}
use Rattle.mr_merge.specs.Rising.{AreAbove, Rises, begins_lower}

-- what is seen of one that is read
pub seen_at : {A X : Type 0} (f : A → List X) (xs : List A) (i : ℕ) (a : A) → i < length xs → a ≡ get_or xs i a → f a ≡ get_or
    (map f xs) i []
seen_at f [] i a h e = absurd (omega (arith, h))
seen_at f (x ∷ xs) zero a h e = ap f e
seen_at f (x ∷ xs) (suc i) a h e = seen_at f xs i a (omega (arith, h)) e

pub lent_at : {X : Type 0} (lists : List (Bor (List X))) (i : ℕ) (l : Bor (List X)) → i < length lists → l ≡ get_or lists i l
    → l.now ≡ get_or (lent lists) i []
lent_at lists i l h e = seen_at (λ l. l.now) lists i l h e

pub rise_at : {X : Type 0} (lt : X → X → Bool) (lists : List (Bor (List X))) (i : ℕ) → All (λ l. Rises lt l.now) lists → Rises lt
    (get_or (lent lists) i [])
rise_at lt [] i h = tt
rise_at lt (l ∷ lists) zero h = All-head (λ l. Rises lt l.now) l lists h
rise_at lt (l ∷ lists) (suc i) h = rise_at lt lists i (All-tail (λ l. Rises lt l.now) l lists h)

module _ {X : Type 0} {lt : X → X → Bool} (o : IsStrictWeakOrder lt) where
  pub irreflexive : (x : X) → lt x x ≡ false
  irreflexive x = elim (lt x x) as (λ t. lt x x ≡ t → t ≡ false) [
    | true ↦ λ e. sym e ∙ o.one_way x x e
    | false ↦ λ e. refl
  ] refl

  pub above_each : (x y : X) (ys : List X) → lt y x ≡ false → AreAbove lt y ys → AreAbove lt x ys
  above_each x y [] h are = tt
  above_each x y (z ∷ zs) h are = (o.chain z y x are.0 h, above_each x y zs h are.1)

  -- a list that doesn't begin lower has no lesser row
  pub above_all : (x : X) (xs ys : List X) → begins_lower lt ys (x ∷ xs) ≡ false → Rises lt ys → AreAbove lt x ys
  above_all x xs [] h r = absurd (true≢false h)
  above_all x xs (y ∷ ys) h r = (h, above_each x y ys h r.0)

  above_from : (x : X) (l : List X) → ((k : ℕ) (d : X) → k < length l → lt (get_or l k d) x ≡ false) → AreAbove lt x l
  above_from x [] h = tt
  above_from x (y ∷ l) h = (h 0 y (omega arith), above_from x l (λ k d b. h (suc k) d (omega (arith, b))))

  above_insert : (y x : X) (l : List X) (i : ℕ) → AreAbove lt y l → lt x y ≡ false → AreAbove lt y (insert l i x)
  above_insert y x l zero h e = (e, h)
  above_insert y x [] (suc i) h e = (e, tt)
  above_insert y x (z ∷ l) (suc i) h e = (h.0, above_insert y x l i h.1 e)

  -- at the place that a search by halves finds it stands in order
  pub inserted : (l : List X) (i : ℕ) (x : X) → i ≤ length l → AllWithin (λ y. lt y x ≡ true) l 0 i → AllWithin (λ y. lt y x ≡ false) l i
      (length l) → Rises lt l → Rises lt (insert l i x)
  inserted l zero x h behind before r = (above_from x l (λ k d b. before k d (omega arith) b), r)
  inserted [] (suc i) x h behind before r = absurd (omega (arith, h))
  inserted (y ∷ l) (suc i) x h behind before r = (
    above_insert y x l i r.0 (o.one_way y x (behind 0 y (omega arith) (omega arith))),
    inserted l i x (omega (arith, h)) (λ k d a b. behind (suc k) d (omega arith) (omega (arith, b)))
        (λ k d a b. before (suc k) d (omega (arith, a)) (omega (arith, b))) r.1,
  )

-- lists, by their first items
module _ {T X : Type 0} (seen : T → List X) {lt : X → X → Bool} (o : IsStrictWeakOrder lt) where
  begins_one_way : (a b : List X) → begins_lower lt a b ≡ true → begins_lower lt b a ≡ false
  begins_one_way a [] e = absurd (true≢false (sym e))
  begins_one_way [] (y ∷ b) e = refl
  begins_one_way (x ∷ a) (y ∷ b) e = o.one_way x y e

  begins_chain : (a b c : List X) → begins_lower lt a b ≡ false → begins_lower lt b c ≡ false → begins_lower lt a c ≡ false
  begins_chain a b [] e f = refl
  begins_chain a [] (z ∷ c) e f = absurd (true≢false f)
  begins_chain [] (y ∷ b) (z ∷ c) e f = absurd (true≢false e)
  begins_chain (x ∷ a) (y ∷ b) (z ∷ c) e f = o.chain x y z e f

  pub begins_order : IsStrictWeakOrder (λ (s t : T). begins_lower lt (seen s) (seen t))
  begins_order = record { one_way = λ s t. begins_one_way (seen s) (seen t); chain = λ s t u. begins_chain (seen s) (seen t) (seen u) }
