-- Passes of one kind among those of any.
use Rattle.std.proofs.Common.{◌≡◌, ℕ, suc, ◌<◌, Bool, List, [], ◌∷◌, ◌++◌, length, map, flat_map, Option, Some, refl, sym, ap, subst, ◌∙◌}
use Rattle.std.proofs.Common.{arith}
use Rattle.std.specs.Prelude.{filter_map, slice_index_or}
use Rattle.std.specs.List.{cons_option, range_with_len}
use Rattle.std.specs.List.Sorted.{IsPermutation}
use Rattle.std.proofs.lemmas.List.{get_or-map, length-map}
use Rattle.mr_base.specs.Tasks.{AreAll, AreAllGiven, AreUnused, HaveEnded}

module _ {P A : Type 0} (f : P → A) where
  -- an item at a place is that of an own pass at it
  at : (ps : List P) (i : ℕ) (d : A) (e : P) → i < length ps → slice_index_or (map f ps) i d ≡ f (slice_index_or ps i e)
  at ps i d e h = get_or-map f ps i e d h

  -- some item there is
  some : (ps : List P) (i : ℕ) → i < length ps → P
  some (p ∷ ps) i h = p
  some [] i h = absurd (omega (arith, h))

  length_as : (ps : List P) (i : ℕ) → i < length (map f ps) → i < length ps
  length_as ps i h = subst (λ n. i < n) (length-map ps f) h

  module _ (number : P → ℕ) (number_any : A → ℕ) (numbers : (p : P) → number_any (f p) ≡ number p) (is_of : P → Type 0)
      (is_any : A → Type 0) (count : ℕ) (ps : List P) where
    pub all_any : ((p : P) → is_of p → is_any (f p)) → AreAll count is_of number ps → AreAll count is_any number_any (map f ps)
    all_any of all = (
      length-map ps f ∙ all.0,
      λ i d h.
          let short : i < length ps = subst (λ n. i < n) (sym all.0) h in
          let e = some ps i short in
          let is = all.1 i e h in (
            subst is_any (sym (at ps i d e short)) (of (slice_index_or ps i e) is.0),
            ap number_any (at ps i d e short) ∙ numbers (slice_index_or ps i e) ∙ is.1,
          ),
    )

    pub all_own : ((p : P) → is_any (f p) → is_of p) → AreAll count is_any number_any (map f ps) → AreAll count is_of number ps
    all_own of all =
        let len : length ps ≡ count = sym (length-map ps f) ∙ all.0 in (
          len,
          λ i e h.
              let short : i < length ps = subst (λ n. i < n) (sym len) h in
              let is = all.1 i (f e) h in (
                of (slice_index_or ps i e) (subst is_any (at ps i (f e) e short) is.0),
                sym (numbers (slice_index_or ps i e)) ∙ ap number_any (sym (at ps i (f e) e short)) ∙ is.1,
              ),
        )

  module _ (given : P → List ℕ) (given_any : A → List ℕ) (lists : (p : P) → given_any (f p) ≡ given p) (ended : P → Bool)
      (ended_any : A → Bool) (ends : (p : P) → ended_any (f p) ≡ ended p) (ps : List P) where
    pub unused_any : AreUnused given ended ps → AreUnused given_any ended_any (map f ps)
    unused_any unused = λ i d h.
        let short = length_as ps i h in
        let e = some ps i short in
        let is = unused i e short in (
          ap given_any (at ps i d e short) ∙ lists (slice_index_or ps i e) ∙ is.0,
          ap ended_any (at ps i d e short) ∙ ends (slice_index_or ps i e) ∙ is.1,
        )

    pub unused_own : AreUnused given_any ended_any (map f ps) → AreUnused given ended ps
    unused_own unused = λ i e h.
        let is = unused i (f e) (subst (λ n. i < n) (sym (length-map ps f)) h) in (
          sym (lists (slice_index_or ps i e)) ∙ ap given_any (sym (at ps i (f e) e h)) ∙ is.0,
          sym (ends (slice_index_or ps i e)) ∙ ap ended_any (sym (at ps i (f e) e h)) ∙ is.1,
        )

    pub ended_own : HaveEnded ended_any (map f ps) → HaveEnded ended ps
    ended_own have = λ i e h.
        sym (ends (slice_index_or ps i e)) ∙ ap ended_any (sym (at ps i (f e) e h))
        ∙ have i (f e) (subst (λ n. i < n) (sym (length-map ps f)) h)

  pub ended_any_all : (ended : P → Bool) (ended_any : A → Bool) → ((p : P) → ended_any (f p) ≡ ended p) → (ps : List P)
      → HaveEnded ended ps → HaveEnded ended_any (map f ps)
  ended_any_all ended ended_any ends ps have = λ i d h.
      let short = length_as ps i h in
      let e = some ps i short in
      ap ended_any (at ps i d e short) ∙ ends (slice_index_or ps i e) ∙ have i e short

  module _ (given : P → List ℕ) (given_any : A → List ℕ) (lists : (p : P) → given_any (f p) ≡ given p) where
    same_lists : (ps : List P) → flat_map given ps ≡ flat_map given_any (map f ps)
    same_lists [] = refl
    same_lists (p ∷ ps) = ap (λ xs. xs ++ flat_map given ps) (sym (lists p)) ∙ ap (λ xs. given_any (f p) ++ xs) (same_lists ps)

    pub given_any_all : (n : ℕ) (ps : List P) → AreAllGiven n given ps → AreAllGiven n given_any (map f ps)
    given_any_all n ps all = subst (IsPermutation (range_with_len 0 n)) (same_lists ps) all

    pub given_own_all : (n : ℕ) (ps : List P) → AreAllGiven n given_any (map f ps) → AreAllGiven n given ps
    given_own_all n ps all = subst (IsPermutation (range_with_len 0 n)) (sym (same_lists ps)) all

  module _ (within : A → Option P) (is_any : A → Type 0) (own : (p : P) → within (f p) ≡ Some p)
      (kind : (a : A) → is_any a → (p : P) × (a ≡ f p)) where
    -- where all are of the kind, they are what is picked of them
    pub all_kept : (xs : List A) → ((i : ℕ) (d : A) → i < length xs → is_any (slice_index_or xs i d)) → xs ≡ map f (filter_map within xs)
    all_kept [] all = refl
    all_kept (a ∷ xs) all =
        let k = kind a (all 0 a (omega arith)) in
        let rest = all_kept xs (λ i d h. all (suc i) d (omega (arith, h))) in
        let picked : within a ≡ Some k.0 = ap within k.1 ∙ own k.0 in
        ap (λ x. x ∷ xs) k.1 ∙ ap (λ ys. f k.0 ∷ ys) rest ∙ ap (λ o. map f (cons_option o (filter_map within xs))) (sym picked)
