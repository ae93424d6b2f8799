-- A list of entries that ascend stands for one pair more.
use Rattle.std.proofs.Common.{◌≡◌, ℕ, ◌+◌, ◌<◌, ◌≤◌, Bool, true, false, cond, ◌&&◌, if◌then◌else◌, List, [], ◌∷◌, ◌++◌, length, get_or, set}
use Rattle.std.proofs.Common.{Option, Some, None, is_some, Result, Ok, Err, OnOk, refl, sym, ap, subst, ◌∙◌, T}
use Rattle.std.specs.List.{insert}
use Rattle.std.specs.List.Sorted.{IsPartitionPoint}
use Rattle.std.specs.declared.cmp.Ordering.{Ordering}
use Rattle.std.specs.declared.cmp.Ordering.TheVariants.{Less, Equal, Greater}
use Rattle.std.specs.Ordering.{eq_by_cmp}
use Rattle.std.specs.Cmp.{IsTotalOrder, tied_back}
use Rattle.std.specs.FinMap.{IsAntisymmetric, find, is_sorted}
use Rattle.std.specs.FinMap.Entries.{find-put, is_sorted-put}
use Rattle.mr_defs.specs.Emission.{Emission, Pair}
use Rattle.mr_defs.specs.Commutative.{IsCommutative, joined}
use Rattle.mr_defs.specs.Faulty.{Noted}
use Rattle.mr_defs.specs.Stands.{StandsFor}
use Rattle.mr_container.proofs.Emitted.{after_pair}
use Rattle.mr_container.proofs.Entries.{find_there, find_set, find_changed, still_spared}
use Rattle.mr_container.proofs.Partitions.{sorted_distinct}
use Rattle.mr_container.proofs.Places.{put_here, put_gap, find_gap}

module _ {K C : Type 0} {R : K → K → Ordering} (o : IsTotalOrder R) (entries : List (K × C)) (sorted : T (is_sorted R entries)) where
  pub sorted_set : (k : K) (v : C) (i : ℕ) (e : K × C) → i < length entries → e ≡ get_or entries i e → R e.0 k ≡ Equal
      → T (is_sorted R (set entries i (e.0, v)))
  sorted_set k v i e p is t =
      subst (λ l. T (is_sorted R l)) (put_here o k v entries i e sorted p is t) (is_sorted-put R o k v entries sorted)

  pub sorted_insert : (k : K) (v : C) (i : ℕ) → i ≤ length entries
      → IsPartitionPoint (λ e. R e.0 k ≡ Less) (λ e. R e.0 k ≡ Greater) entries i → T (is_sorted R (insert entries i (k, v)))
  sorted_insert k v i p g = subst (λ l. T (is_sorted R l)) (put_gap o k v entries i p g) (is_sorted-put R o k v entries sorted)

  -- a key that has a cell keeps one
  pub spared_here : IsAntisymmetric R → (fixed : Bool) (q : K) (new : C) (i : ℕ) (e : K × C) → i < length entries → e ≡ get_or entries i e
      → (fixed && is_some (find R q entries)) ≡ true → (fixed && is_some (find R q (set entries i (e.0, new)))) ≡ true
  spared_here one fixed q new i e p is =
      still_spared fixed (eq_by_cmp R q e.0) new _ _ (find_set o one q new entries i e (sorted_distinct R entries sorted) p is)

  pub spared_gap : (fixed : Bool) (q k : K) (new : C) (i : ℕ) → i ≤ length entries
      → IsPartitionPoint (λ e. R e.0 k ≡ Less) (λ e. R e.0 k ≡ Greater) entries i
      → (fixed && is_some (find R q entries)) ≡ true → (fixed && is_some (find R q (insert entries i (k, new)))) ≡ true
  spared_gap fixed q k new i p g =
      still_spared fixed (eq_by_cmp R q k) new _ _ (ap (find R q) (sym (put_gap o k new entries i p g)) ∙ find-put R o q k new entries)

  module _ {V : Type 0} (one : IsAntisymmetric R) {merged : C → C → C} (laws : IsCommutative merged) (unit : V → C) (number : ℕ)
      (noted : Noted K) (es : List (Emission K V)) (was : StandsFor R (λ _. true) unit merged (λ k. find R k entries) number noted es) where
    pub emitted_here : (k : K) (v : V) (i : ℕ) (e : K × C) (new : C) → i < length entries → e ≡ get_or entries i e → R e.0 k ≡ Equal
        → new ≡ merged e.1 (unit v)
        → StandsFor R (λ _. true) unit merged (λ q. find R q (set entries i (e.0, new))) number noted (es ++ Pair k v ∷ [])
    emitted_here k v i e new p is t n =
        let back = tied_back o e.0 k t in
        after_pair o one (λ _. true) unit laws (λ q. find R q entries) number noted es was
        (λ q. find R q (set entries i (e.0, new))) number k v refl
        (find_changed o one merged entries k (unit v) new i e (sorted_distinct R entries sorted) p is back n)
        (ap (λ x. cond (is_some x) number (number + 1)) (sym (find_there o one entries k i e (sorted_distinct R entries sorted) p is back)))

    pub emitted_gap : (k : K) (v : V) (i : ℕ) (new : C) → i ≤ length entries
        → IsPartitionPoint (λ e. R e.0 k ≡ Less) (λ e. R e.0 k ≡ Greater) entries i → new ≡ unit v
        → StandsFor R (λ _. true) unit merged (λ q. find R q (insert entries i (k, new))) (number + 1) noted (es ++ Pair k v ∷ [])
    emitted_gap k v i new p g n =
        let none : find R k entries ≡ None = find_gap o k entries i p g in
        after_pair o one (λ _. true) unit laws (λ q. find R q entries) number noted es was (λ q. find R q (insert entries i (k, new)))
        (number + 1) k v refl
        (λ q. ap (find R q) (sym (put_gap o k new entries i p g)) ∙ find-put R o q k new entries
        ∙ ap (λ x. cond (eq_by_cmp R q k) x (find R q entries)) (ap Some n ∙ ap (λ x. joined merged x (Some (unit v))) (sym none)))
        (ap (λ x. cond (is_some x) number (number + 1)) (sym none))

-- what holds of both outcomes holds of the one that came
pub either_list : {X : Type 0} (P : X → Type 0) (r : Bool) (x y z : X) → z ≡ (if r then x else y) → P x → P y → P z
either_list P true x y z e p q = subst P (sym e) p
either_list P false x y z e p q = subst P (sym e) q

module _ {K C V A E : Type 0} {R : K → K → Ordering} (o : IsTotalOrder R) (entries : List (K × C)) (sorted : T (is_sorted R entries))
    (one : IsAntisymmetric R) {merged : C → C → C} (laws : IsCommutative merged) (unit : V → C) (number : ℕ) (noted : Noted K) where
  pub emitted_here_ok : (k : K) (v : V) (i : ℕ) (e : K × C) (new : C) (r : Result A E) → i < length entries → e ≡ get_or entries i e
      → R e.0 k ≡ Equal → OnOk r (new ≡ merged e.1 (unit v))
      → OnOk r ((es : List (Emission K V)) → StandsFor R (λ _. true) unit merged (λ k. find R k entries) number noted es
      → StandsFor R (λ _. true) unit merged (λ q. find R q (set entries i (e.0, new))) number noted (es ++ Pair k v ∷ []))
  emitted_here_ok k v i e new (Ok a) p is t n =
      λ es was. emitted_here o entries sorted one laws unit number noted es was k v i e new p is t n
  emitted_here_ok k v i e new (Err a) p is t n = tt

-- an absent key is not spared
pub not_spared : {X : Type 0} (b : Bool) (x : Option X) → x ≡ None → (b && is_some x) ≡ true → ⊥
not_spared true x e h = absurd (no (sym (ap is_some e) ∙ h))
  where
    no : false ≡ true → ⊥
    no p = cc
not_spared false x e h = cc
