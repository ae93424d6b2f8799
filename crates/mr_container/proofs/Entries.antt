-- Entries with distinct keys, in any order.
use Rattle.std.proofs.Common.{◌≡◌, ℕ, zero, suc, ◌<◌, ◌==◌, Bool, true, false, ◌&&◌, cond, List, [], ◌∷◌, ◌++◌, length, get_or, set, map}
use Rattle.std.proofs.Common.{filter, Option, Some, None, is_some, refl, sym, ap, ◌∙◌, arith}
use Rattle.std.specs.List.{IsDistinct, AllByRecursion}
use Rattle.std.specs.declared.cmp.Ordering.{Ordering}
use Rattle.std.specs.declared.cmp.Ordering.TheVariants.{Equal}
use Rattle.std.specs.Ordering.{eq_by_cmp, is_eq}
use Rattle.std.specs.Cmp.{IsTotalOrder, tied_itself}
use Rattle.std.specs.FinMap.{IsAntisymmetric, find}
use Rattle.std.specs.FinMap.Entries.{find-append, find-where_key}
use Rattle.std.proofs.lemmas.Map.Keys.{IsDistinct-head, IsDistinct-tail}
use Rattle.std.proofs.lemmas.Map.Made.{IsDistinct-keys_filter}
use Rattle.std.proofs.lemmas.Bool.{true≢false}
use Rattle.mr_defs.specs.Commutative.{joined}
use Rattle.mr_container.specs.Partition.{IsPartition}
use Rattle.mr_container.proofs.Orders.{is_Equal}

-- two tests that are not both met, in either order
swapped : {A : Type 0} (a b : Bool) (x y z : A) → (a ≡ true → b ≡ true → ⊥) → cond a x (cond b y z) ≡ cond b y (cond a x z)
swapped true true x y z h = absurd (h refl refl)
swapped true false x y z h = refl
swapped false true x y z h = refl
swapped false false x y z h = refl

module _ {K : Type 0} {R : K → K → Ordering} (o : IsTotalOrder R) where
  pub same_tied : (x y : K) → x ≡ y → eq_by_cmp R x y ≡ true
  same_tied x y e = ap (eq_by_cmp R x) (sym e) ∙ ap is_eq (tied_itself o x)

module _ {K : Type 0} {R : K → K → Ordering} (one : IsAntisymmetric R) where
  pub tied_same : (x y : K) → eq_by_cmp R x y ≡ true → x ≡ y
  tied_same x y e = one x y (is_Equal (R x y) e)

module _ {K : Type 0} {R : K → K → Ordering} (o : IsTotalOrder R) (one : IsAntisymmetric R) where
  turned : (x y : K) → eq_by_cmp R x y ≡ false → eq_by_cmp R y x ≡ false
  turned x y h = elim (eq_by_cmp R y x) as (λ t. eq_by_cmp R y x ≡ t → t ≡ false) [
    | true ↦ λ e. absurd (true≢false (sym (same_tied o x y (sym (tied_same one y x e))) ∙ h))
    | false ↦ λ e. refl
  ] refl

module _ {K C : Type 0} (R : K → K → Ordering) where
  -- a key that ties with no entry
  pub find_none : (k : K) (ps : List (K × C)) → ((i : ℕ) → i < length ps → (d : K × C) → R k (get_or ps i d).0 ≡ Equal → ⊥)
      → find R k ps ≡ None
  find_none k [] h = refl
  find_none k (p ∷ ps) h = elim (eq_by_cmp R k p.0) as (λ t. eq_by_cmp R k p.0 ≡ t → cond t (Some p.1) (find R k ps) ≡ None) [
    | true ↦ λ e. absurd (h 0 (omega arith) p (is_Equal (R k p.0) e))
    | false ↦ λ e. find_none k ps (λ i l d. h (suc i) (omega (arith, l)) d)
  ] refl

  head_differs : (x : K) (ps : List (K × C)) (i : ℕ) (e : K × C) → AllByRecursion (λ y. eq_by_cmp R x y ≡ false) (map (λ p. p.0) ps)
      → i < length ps → e ≡ get_or ps i e → eq_by_cmp R x e.0 ≡ false
  head_differs x [] i e h l is = absurd (omega (arith, l))
  head_differs x (p ∷ ps) zero e h l is = ap (λ y. eq_by_cmp R x y.0) is ∙ h.0
  head_differs x (p ∷ ps) (suc i) e h l is = head_differs x ps i e h.1 (omega (arith, l)) is

  -- the entries of one partition
  pub part_of_distinct : IsAntisymmetric R → (part_of : K → ℕ) (part : ℕ) (ps : List (K × C))
      → IsDistinct (eq_by_cmp R) (map (λ p. p.0) ps) → IsPartition R (λ k. find R k ps) part_of part (filter (λ p. part_of p.0 == part) ps)
  part_of_distinct one part_of part ps h = record {
    distinct = IsDistinct-keys_filter (eq_by_cmp R) (λ p. part_of p.0 == part) ps h;
    found = λ k. find-where_key R (λ q. part_of q == part) k (λ x e. ap (λ q. part_of q == part) (sym (one k x e))) ps;
  }

module _ {K C : Type 0} {R : K → K → Ordering} (o : IsTotalOrder R) (one : IsAntisymmetric R) where
  find_at : (ps : List (K × C)) (i : ℕ) (e : K × C) → IsDistinct (eq_by_cmp R) (map (λ p. p.0) ps) → i < length ps → e ≡ get_or ps i e
      → find R e.0 ps ≡ Some e.1
  find_at [] i e h l is = absurd (omega (arith, l))
  find_at (p ∷ ps) zero e h l is =
      ap (λ t. cond t (Some p.1) (find R e.0 ps)) (same_tied o e.0 p.0 (ap (λ x. x.0) is)) ∙ ap (λ x. Some x.1) (sym is)
  find_at (p ∷ ps) (suc i) e h l is =
      ap (λ t. cond t (Some p.1) (find R e.0 ps))
      (turned o one p.0 e.0 (head_differs R p.0 ps i e (IsDistinct-head _ _ _ h) (omega (arith, l)) is))
      ∙ find_at ps i e (IsDistinct-tail _ _ _ h) (omega (arith, l)) is

  pub find_set : (q : K) (v : C) (ps : List (K × C)) (i : ℕ) (e : K × C) → IsDistinct (eq_by_cmp R) (map (λ p. p.0) ps) → i < length ps
      → e ≡ get_or ps i e → find R q (set ps i (e.0, v)) ≡ cond (eq_by_cmp R q e.0) (Some v) (find R q ps)
  find_set q v [] i e h l is = absurd (omega (arith, l))
  find_set q v (p ∷ ps) zero e h l is = elim (eq_by_cmp R q e.0) as (λ t. eq_by_cmp R q e.0 ≡ t
      → cond t (Some v) (find R q ps) ≡ cond t (Some v) (cond (eq_by_cmp R q p.0) (Some p.1) (find R q ps))) [
        | true ↦ λ n. refl
        | false ↦ λ n. sym (ap (λ t. cond t (Some p.1) (find R q ps)) (ap (λ x. eq_by_cmp R q x.0) (sym is) ∙ n))
      ] refl
  find_set q v (p ∷ ps) (suc i) e h l is =
      ap (cond (eq_by_cmp R q p.0) (Some p.1)) (find_set q v ps i e (IsDistinct-tail _ _ _ h) (omega (arith, l)) is)
      ∙ swapped (eq_by_cmp R q p.0) (eq_by_cmp R q e.0) (Some p.1) (Some v) (find R q ps)
      (λ a b. true≢false (sym (same_tied o p.0 e.0 (sym (tied_same one q p.0 a) ∙ tied_same one q e.0 b))
      ∙ head_differs R p.0 ps i e (IsDistinct-head _ _ _ h) (omega (arith, l)) is))

  -- an entry whose key ties with this one
  pub find_there : (ps : List (K × C)) (k : K) (i : ℕ) (e : K × C) → IsDistinct (eq_by_cmp R) (map (λ p. p.0) ps) → i < length ps
      → e ≡ get_or ps i e → R k e.0 ≡ Equal → find R k ps ≡ Some e.1
  find_there ps k i e h l is t = ap (λ x. find R x ps) (one k e.0 t) ∙ find_at ps i e h l is

  module _ (merged : C → C → C) (ps : List (K × C)) (k : K) (unit new : C) where
    -- the cells where a value more has come to an entry, and where an entry more has come
    pub find_changed : (i : ℕ) (e : K × C) → IsDistinct (eq_by_cmp R) (map (λ p. p.0) ps) → i < length ps → e ≡ get_or ps i e
        → R k e.0 ≡ Equal → new ≡ merged e.1 unit
        → (q : K) → find R q (set ps i (e.0, new)) ≡ cond (eq_by_cmp R q k) (joined merged (find R k ps) (Some unit)) (find R q ps)
    find_changed i e h l is t n q =
        find_set q new ps i e h l is
        ∙ ap (λ x. cond (eq_by_cmp R q x) (Some new) (find R q ps)) (sym (one k e.0 t))
        ∙ ap (λ x. cond (eq_by_cmp R q k) x (find R q ps))
        (ap Some n ∙ ap (λ x. joined merged x (Some unit)) (sym (find_there ps k i e h l is t)))

    pub find_pushed : find R k ps ≡ None → new ≡ unit → (q : K)
        → find R q (ps ++ (k, new) ∷ []) ≡ cond (eq_by_cmp R q k) (joined merged (find R k ps) (Some unit)) (find R q ps)
    find_pushed none n q =
        find-append R o ps k new q none
        ∙ ap (λ x. cond (eq_by_cmp R q k) x (find R q ps)) (ap Some n ∙ ap (λ x. joined merged x (Some unit)) (sym none))

-- a key that has a cell still has one where one is put
pub still_spared : {C : Type 0} (fixed put : Bool) (new : C) (was now : Option C) → now ≡ cond put (Some new) was
    → (fixed && is_some was) ≡ true → (fixed && is_some now) ≡ true
still_spared true true new was now e h = ap (λ c. is_some c) e
still_spared false true new was now e h = h
still_spared fixed false new was now e h = ap (λ c. fixed && is_some c) e ∙ h
