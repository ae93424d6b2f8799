-- The words that are not empty, as pairs, and as rows.
use Rattle.std.proofs.Common.{◌≡◌, ◌≢◌, ℕ, ℤ, zero, suc, ◌+◌, ◌<◌, ◌≤◌, ◌==◌, true, false, cond, nat_lt, All, Contains, List, [], ◌∷◌, ◌++◌}
use Rattle.std.proofs.Common.{map, slice_index, slice_index_or, refl, sym, ap, ◌∙◌, arith, add-one, append-nil, subst}
use Rattle.std.specs.List.{AllByRecursion}
use Rattle.std.specs.List.Sorted.{IsPermutation, IsStrictlySortedBy}
use Rattle.std.specs.declared.cmp.Ordering.TheVariants.{Less}
use Rattle.std.specs.Ordering.{nat_cmp}
use Rattle.std.specs.Int.{cast_signed}
use Rattle.std.proofs.lemmas.Bool.Decides.{nat_tests}
use Rattle.std.proofs.lemmas.List.{map-append}
use Rattle.std.proofs.lemmas.List.Elements.{All-push}
use Rattle.std.proofs.lemmas.List.Sorted.{IsPermutation-map}
use mathlib.Core.Option.{some, some-injective, some-ne-none}
use mathlib.Core.Logic.{dite}
use mir.Syntax.{w64}
use native.Mathlib.Decide.{dec_lt, ℕ_discrete}
use lib.ListN.{get_elem?}
use Rattle.mr_base.specs.Tasks.{times, IsApartBelow}
use Rattle.mr_base.proofs.Bridge.{permuted}
use Rattle.mr_common.specs.declared.view.View.{View}
use Rattle.mr_common.specs.Lawful.{EMPTY, view, keys, IsHeld, IsFull}
use Rattle.mr_common.specs.Passes.{pairs_to}
use Rattle.mr_common.proofs.Steps.{times-keys_push}

-- one more pair was won
pub apart_more : (n k : ℕ) (z : ℤ) (v w : View) → IsApartBelow n (keys v.won) → k < n → w ≡ view 1 (v.won ++ (k, z) ∷ []) v.refused
    → ((j : ℕ) → times j (keys w.won) ≤ 1)
    → IsApartBelow n (keys w.won)
apart_more n k z v w apart lt is one x =
    let o = one x in
    let a = apart x in
    let b : times x (keys w.won) ≡ times x (keys (v.won ++ (k, z) ∷ [])) = ap (λ (u : View). times x (keys u.won)) is in
    let c = times-keys_push x v.won (k, z) in
    grind (arith, nat_tests, o, a, b, c, lt)

-- the pair of a word, if it has one
pair_at : List ℕ → ℕ → List (ℕ × ℤ)
pair_at words k = cond (slice_index words k == EMPTY) [] ((k, cast_signed w64 (slice_index words k)) ∷ [])

empty_at : (words : List ℕ) (k : ℕ) → slice_index words k ≡ EMPTY → pair_at words k ≡ []
unfolding pair_at
empty_at words k e = let b : (slice_index words k == EMPTY) ≡ true = grind (arith, nat_tests, e) in rw b refl

full_at : (words : List ℕ) (k : ℕ) → slice_index words k ≢ EMPTY → pair_at words k ≡ (k, cast_signed w64 (slice_index words k)) ∷ []
unfolding pair_at
full_at words k e = let b : (slice_index words k == EMPTY) ≡ false = grind (arith, nat_tests, e) in rw b refl

pub pairs_none : (words : List ℕ) (k : ℕ) → slice_index words k ≡ EMPTY → pairs_to words (k + 1) ≡ pairs_to words k
unfolding pair_at
pairs_none words k e =
    ap (pairs_to words) (add-one k) ∙ ap (λ l. pairs_to words k ++ l) (empty_at words k e) ∙ append-nil (pairs_to words k)

pub pairs_one : (words : List ℕ) (k : ℕ) → slice_index words k ≢ EMPTY
    → pairs_to words (k + 1) ≡ pairs_to words k ++ (k, cast_signed w64 (slice_index words k)) ∷ []
unfolding pair_at
pairs_one words k e = ap (pairs_to words) (add-one k) ∙ ap (λ l. pairs_to words k ++ l) (full_at words k e)

-- a fact of the pairs so far goes on to the next word
each_word : (words : List ℕ) (F : ℕ → List (ℕ × ℤ) → Type 0) → F 0 []
    → ((k : ℕ) → slice_index words k ≡ EMPTY → F k (pairs_to words k) → F (k + 1) (pairs_to words k))
    → ((k : ℕ) → slice_index words k ≢ EMPTY → F k (pairs_to words k)
    → F (k + 1) (pairs_to words k ++ (k, cast_signed w64 (slice_index words k)) ∷ []))
    → (n : ℕ) → F n (pairs_to words n)
each_word words F start stays grows zero = start
each_word words F start stays grows (suc n) =
    let h = each_word words F start stays grows n in
    subst (λ k. F k (pairs_to words k)) (add-one n)
    (dite (ℕ_discrete (slice_index words n) EMPTY)
    (λ e. subst (F (n + 1)) (sym (pairs_none words n e)) (stays n e h))
    (λ e. subst (F (n + 1)) (sym (pairs_one words n e)) (grows n e h)))

-- their keys ascend
below_push : (m : ℕ) (ks : List ℕ) → AllByRecursion (λ k. k < m) ks → AllByRecursion (λ k. k < m + 1) (ks ++ m ∷ [])
below_push m [] h = (omega arith, tt)
below_push m (k ∷ ks) h = (let a = h.0 in omega (arith, a), below_push m ks h.1)

below_more : (m : ℕ) (ks : List ℕ) → AllByRecursion (λ k. k < m) ks → AllByRecursion (λ k. k < m + 1) ks
below_more m [] h = tt
below_more m (k ∷ ks) h = (let a = h.0 in omega (arith, a), below_more m ks h.1)

above_push : (m k : ℕ) (ks : List ℕ) → k < m → AllByRecursion (λ y. nat_cmp k y ≡ Less) ks
    → AllByRecursion (λ y. nat_cmp k y ≡ Less) (ks ++ m ∷ [])
above_push m k [] lt h = (grind (arith, nat_tests, lt), tt)
above_push m k (y ∷ ys) lt h = (h.0, above_push m k ys lt h.1)

sorted_push : (m : ℕ) (ks : List ℕ) → IsStrictlySortedBy nat_cmp ks → AllByRecursion (λ k. k < m) ks
    → IsStrictlySortedBy nat_cmp (ks ++ m ∷ [])
unfolding IsStrictlySortedBy
sorted_push m [] s b = (tt, tt)
sorted_push m (k ∷ ks) s b = (above_push m k ks b.0 s.0, sorted_push m ks s.1 b.1)

abbrev Ascends : ℕ → List ℕ → Type 0
Ascends n ks = IsStrictlySortedBy nat_cmp ks × AllByRecursion (λ k. k < n) ks

keys-push : (pairs : List (ℕ × ℤ)) (p : ℕ × ℤ) → keys (pairs ++ p ∷ []) ≡ keys pairs ++ p.0 ∷ []
keys-push pairs p = map-append (λ q. q.0) pairs (p ∷ [])

pub ascending : (words : List ℕ) (n : ℕ) → IsStrictlySortedBy nat_cmp (keys (pairs_to words n))
unfolding IsStrictlySortedBy
ascending words n = (each_word words (λ k ps. Ascends k (keys ps)) (tt, tt)
    (λ k e h. (h.0, below_more k (keys (pairs_to words k)) h.1))
    (λ k e h. subst (Ascends (k + 1)) (sym (keys-push (pairs_to words k) (k, cast_signed w64 (slice_index words k))))
    (sorted_push k (keys (pairs_to words k)) h.0 h.1, below_push k (keys (pairs_to words k)) h.1)) n).0

-- each is the pair of its word
abbrev HasValue : List ℕ → ℕ × ℤ → Type 0
HasValue words p = cast_signed w64 (slice_index words p.0) ≡ p.1

valued : (words : List ℕ) (n : ℕ) → All (HasValue words) (pairs_to words n)
valued words n = each_word words (λ k ps. All (HasValue words) ps) (λ k d lt. absurd (omega (arith, lt))) (λ k e h. h)
    (λ k e h. All-push (HasValue words) (pairs_to words k) (k, cast_signed w64 (slice_index words k)) h refl) n

-- and each word that is not empty has one
counted : (words : List ℕ) (j n : ℕ) → times j (keys (pairs_to words n)) ≡ cond (nat_lt j n) (cond (slice_index words j == EMPTY) 0 1) 0
counted words j n =
    each_word words (λ k ps. times j (keys ps) ≡ cond (nat_lt j k) (cond (slice_index words j == EMPTY) 0 1) 0) (grind (arith, nat_tests))
    (λ k e h. dite (ℕ_discrete j k)
    (λ is. let z = ap (slice_index words) is ∙ e in grind (arith, nat_tests, h, is, z))
    (λ ne. grind (arith, nat_tests, h, ne)))
    (λ k e h. let p = times-keys_push j (pairs_to words k) (k, cast_signed w64 (slice_index words k)) in
    dite (ℕ_discrete j k)
    (λ is. let z : slice_index words j ≢ EMPTY = (λ y. e (ap (slice_index words) (sym is) ∙ y)) in grind (arith, nat_tests, h, p, is, z))
    (λ ne. grind (arith, nat_tests, h, p, ne))) n

-- pairs whose keys have these values are told by their keys
told_by_keys : (words : List ℕ) (ps : List (ℕ × ℤ)) → All (HasValue words) ps
    → map (λ k. (k, cast_signed w64 (slice_index words k))) (keys ps) ≡ ps
told_by_keys words [] h = refl
told_by_keys words (p ∷ ps) h =
    let first : cast_signed w64 (slice_index words p.0) ≡ p.1 = h 0 p (omega arith) in
    let rest = told_by_keys words ps (λ k d lt. h (suc k) d (omega (arith, lt))) in
    λ i. (p.0, first i) ∷ rest i

module _ (words : List ℕ) (n : ℕ) (won : List (ℕ × ℤ)) (held : All (IsHeld n words) won)
    (inside : (k : ℕ) → k < n → times k (keys won) ≡ cond (slice_index words k == EMPTY) 0 1)
    (outside : (k : ℕ) → n ≤ k → times k (keys won) ≡ 0) where
  same_keys : IsPermutation (keys won) (keys (pairs_to words n))
  same_keys = permuted (keys won) (keys (pairs_to words n)) (λ k.
      let c = counted words k n in
      dite (dec_lt k n)
      (λ lt. let i = inside k lt in grind (arith, nat_tests, i, c, lt))
      (λ no. let o = outside k (omega (arith, no)) in grind (arith, nat_tests, o, c, no)))

  pub same_pairs : IsPermutation won (pairs_to words n)
  same_pairs =
      let f : ℕ → ℕ × ℤ = λ k. (k, cast_signed w64 (slice_index words k)) in
      subst (λ ps. IsPermutation won ps) (told_by_keys words (pairs_to words n) (valued words n))
      (subst (λ ps. IsPermutation ps (map f (keys (pairs_to words n)))) (told_by_keys words won (λ k d lt. (held k d lt).1))
      (IsPermutation-map f (keys won) (keys (pairs_to words n)) same_keys))

  pub refused_won : (refused : List ℕ) → All (IsFull n words) refused → All (Contains (keys won)) refused
  refused_won refused full i d lt =
      let k : ℕ = slice_index_or refused i d in
      let f = full i d lt in
      let c = inside k f.0 in
      let nonempty = f.1 in
      stands k (keys won) (grind (arith, nat_tests, c, nonempty))
    where
      stands : (k : ℕ) (ks : List ℕ) → 1 ≤ times k ks → Contains ks k
      stands k [] h = absurd (omega (arith, h))
      stands k (y ∷ ys) h =
          dite (ℕ_discrete y k)
          (λ is. (0, omega arith, is))
          (λ ne. let r = stands k ys (grind (arith, nat_tests, h, ne)) in (suc r.0, (let l = r.1 in omega (arith, l)), r.2))

pub found_at : (words : List ℕ) (k w : ℕ) → get_elem? words k ≡ some w → slice_index words k ≡ w
found_at [] k w e = absurd (some-ne-none w (sym e))
found_at (x ∷ xs) zero w e = some-injective x w e
found_at (x ∷ xs) (suc k) w e = found_at xs k w e
