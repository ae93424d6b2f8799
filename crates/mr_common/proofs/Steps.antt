-- Each step of a pass keeps the rule.
use Rattle.std.proofs.Common.{All, ℤ, slice_index_or, ◌≡◌, ◌≢◌, ℕ, zero, suc, ◌+◌, ◌-◌, ◌<◌, ◌≤◌, ◌==◌, true, false, cond, List, [], ◌∷◌}
use Rattle.std.proofs.Common.{◌++◌, set, length, length-set, slice_index, refl, sym, ap, ◌∙◌, arith, subst, inl, inr}
use Rattle.std.proofs.lemmas.Bool.Decides.{nat_tests}
use Rattle.std.proofs.lemmas.List.{get_or-set_same, get_or-set_other, set-get_or, map-append}
use Rattle.std.proofs.lemmas.List.Elements.{All-append, All-push}
use mathlib.Core.Option.{some, some-injective, some-ne-none}
use mathlib.Core.Logic.{dite}
use native.Mathlib.Decide.{dec_lt, ℕ_discrete}
use prog.Atomic.{either}
use lib.ListN.{get_elem?}
use Rattle.std.specs.Int.{cast_signed}
use mir.Syntax.{w64}
use Rattle.mr_base.specs.Tasks.{times}
use Rattle.mr_base.specs.Totals.{total, Each}
use Rattle.mr_base.proofs.Times.{times-snoc, times-append}
use Rattle.mr_base.proofs.Totals.{total_set, total_member, total_whole, total_split, total_join, at_other, each_set, each_snoc}
use Rattle.mr_common.specs.declared.view.View.{View}
use Rattle.mr_common.specs.Lawful.{EMPTY, view, keys, IsHeld, IsFull, IsView, IsLawful, Exchanged}

every : {X : Type 0} (P Q : X → Type 0) (xs : List X) → ((x : X) → P x → Q x) → All P xs → All Q xs
every P Q xs f all k d lt = f (slice_index_or xs k d) (all k d lt)

none : {X : Type 0} (P : X → Type 0) → All P []
none P k d lt = absurd (omega (arith, lt))

pub times-keys_push : (j : ℕ) (won : List (ℕ × ℤ)) (p : ℕ × ℤ) → times j (keys (won ++ p ∷ [])) ≡ times j (keys won) + cond (p.0 == j) 1 0
times-keys_push j won p = ap (times j) (map-append (λ q. q.0) won (p ∷ [])) ∙ times-snoc j (keys won) p.0

times-keys_append : (j : ℕ) (us vs : List (ℕ × ℤ)) → times j (keys (us ++ vs)) ≡ times j (keys us) + times j (keys vs)
times-keys_append j us vs = ap (times j) (map-append (λ q. q.0) us vs) ∙ times-append j (keys us) (keys vs)

set_some : (l : List View) (i : ℕ) (a b : View) → get_elem? l i ≡ some a → get_elem? (set l i b) i ≡ some b
set_some [] i a b e = absurd (some-ne-none a (sym e))
set_some (x ∷ xs) zero a b e = refl
set_some (x ∷ xs) (suc i) a b e = set_some xs i a b e

module _ (n passes k x id : ℕ) (v : View) (lt : k < n) (value : x ≢ EMPTY) (one : v.weight ≡ 1) (words : List ℕ) (views : List View)
    (h : IsLawful n passes words views) (at : get_elem? views id ≡ some v) where
  room : k < length words
  room = let l = h.len in omega (arith, l, lt)

  win : slice_index words k ≡ EMPTY
      → IsLawful n passes (set words k x) (set views id (view v.weight (v.won ++ (k, cast_signed w64 x) ∷ []) v.refused))
  win empty =
      let w : View = view v.weight (v.won ++ (k, cast_signed w64 x) ∷ []) v.refused in
      let here = get_or-set_same words k x 0 room in
      let holds : (p : ℕ × ℤ) → IsHeld n words p → IsHeld n (set words k x) p = λ p q.
      dite (ℕ_discrete p.0 k)
      (λ same. absurd (q.2 (ap (slice_index words) same ∙ empty)))
      (λ ne. let o = get_or-set_other words k p.0 x 0 ne in (q.0, ap (cast_signed w64) o ∙ q.1, λ e. q.2 (sym o ∙ e))) in
      let full : (j : ℕ) → IsFull n words j → IsFull n (set words k x) j = λ j q.
      dite (ℕ_discrete j k)
      (λ same. absurd (q.1 (ap (slice_index words) same ∙ empty)))
      (λ ne. (q.0, λ e. q.1 (sym (get_or-set_other words k j x 0 ne) ∙ e))) in
      let all : Each (IsView n (set words k x)) views = λ i u e. let b = h.each i u e in (
        every (IsHeld n words) (IsHeld n (set words k x)) u.won holds b.0,
        every (IsFull n words) (IsFull n (set words k x)) u.refused full b.1,
        b.2,
      ) in
      let mine = all id v at in
      let new : IsHeld n (set words k x) (k, cast_signed w64 x) = (lt, ap (cast_signed w64) here, λ e. value (sym here ∙ e)) in
      record {
        len = length-set words k x ∙ h.len;
        each = each_set (IsView n (set words k x)) views id w
            (All-push (IsHeld n (set words k x)) v.won (k, cast_signed w64 x) mine.0 new, mine.1, λ z. absurd (omega (arith, z, one))) all;
        weights = (let s = total_set (λ (u : View). u.weight) views id v w at in let p = h.weights in omega (arith, s, p));
        won = λ j jl.
            let s = total_set (λ (u : View). times j (keys u.won)) views id v w at in
            let c = times-keys_push j v.won (k, cast_signed w64 x) in
            let g = h.won j jl in
            dite (ℕ_discrete j k)
            (λ same. let e : slice_index words j ≡ EMPTY = ap (slice_index words) same ∙ empty in
            let e' : slice_index (set words k x) j ≡ x = subst (λ y. slice_index (set words k x) y ≡ x) (sym same) here in
            let g' : total (λ (u : View). times j (keys u.won)) views ≡ cond (EMPTY == EMPTY) 0 1 =
            subst (λ y. total (λ (u : View). times j (keys u.won)) views ≡ cond (y == EMPTY) 0 1) e g in
            rw e' (grind (arith, nat_tests, s, c, g', same, value)))
            (λ ne. rw (get_or-set_other words k j x 0 ne) (grind (arith, nat_tests, s, c, g, ne)));
        outside = λ j past.
            let s = total_set (λ (u : View). times j (keys u.won)) views id v w at in
            let c = times-keys_push j v.won (k, cast_signed w64 x) in
            let g = h.outside j past in
            grind (arith, nat_tests, s, c, g, past, lt);
      }

  refuse : slice_index words k ≢ EMPTY → IsLawful n passes words (set views id (view v.weight v.won (v.refused ++ k ∷ [])))
  refuse full =
      let w : View = view v.weight v.won (v.refused ++ k ∷ []) in
      let mine = h.each id v at in
      record {
        len = h.len;
        each = each_set (IsView n words) views id w
            (mine.0, All-push (IsFull n words) v.refused k mine.1 (lt, full), λ z. absurd (omega (arith, z, one))) h.each;
        weights = (let s = total_set (λ (u : View). u.weight) views id v w at in let p = h.weights in omega (arith, s, p));
        won = λ j jl. let s = total_set (λ (u : View). times j (keys u.won)) views id v w at in let g = h.won j jl in omega (arith, s, g);
        outside = λ j past. let s = total_set (λ (u : View). times j (keys u.won)) views id v w at in let g = h.outside j past in
            omega (arith, s, g);
      }

  once : (ws : List ℕ) (w : View) → IsLawful n passes ws (set views id w) → (j : ℕ) → times j (keys w.won) ≤ 1
  once ws w l j =
      let m = total_member (λ (u : View). times j (keys u.won)) (set views id w) id w (set_some views id v w at) in
      dite (dec_lt j n)
      (λ lo. let g = l.won j lo in grind (arith, nat_tests, m, g))
      (λ hi. let g = l.outside j (omega (arith, hi)) in omega (arith, m, g))

  pub exchange_ok : (w : View)
      × IsLawful n passes (set words k (either (slice_index words k == EMPTY) x (slice_index words k))) (set views id w)
      × Exchanged k x v (slice_index words k) w
  exchange_ok =
      dite (ℕ_discrete (slice_index words k) EMPTY)
      (λ empty. let b : (slice_index words k == EMPTY) ≡ true = grind (arith, nat_tests, empty) in
      rw b (
        view v.weight (v.won ++ (k, cast_signed w64 x) ∷ []) v.refused,
        win empty,
        (once (set words k x) (view v.weight (v.won ++ (k, cast_signed w64 x) ∷ []) v.refused) (win empty), inl (empty, refl)),
      ))
      (λ full. let b : (slice_index words k == EMPTY) ≡ false = grind (arith, nat_tests, full) in
      rw (b, set-get_or words k 0) (
        view v.weight v.won (v.refused ++ k ∷ []),
        refuse full,
        (once words (view v.weight v.won (v.refused ++ k ∷ [])) (refuse full), inr (full, refl)),
      ))

pub join_ok : (n passes id : ℕ) (v : View) (other : ℕ) (w : View) → 0 < v.weight → (words : List ℕ) (views : List View)
    → IsLawful n passes words views → get_elem? views id ≡ some v
    → ¬ (other ≡ id) → get_elem? (set views id (view (v.weight + w.weight) (v.won ++ w.won) (v.refused ++ w.refused))) other ≡ some w
    → IsLawful n passes words
    (set (set views id (view (v.weight + w.weight) (v.won ++ w.won) (v.refused ++ w.refused))) other (view 0 [] []))
join_ok n passes id v other w some_weight words views h at ne at' =
    let both : View = view (v.weight + w.weight) (v.won ++ w.won) (v.refused ++ w.refused) in
    let spent : View = view 0 [] [] in
    let was = at_other views id other both w ne at' in
    let mine = h.each id v at in
    let theirs = h.each other w was in
    let b : IsView n words both = (
      All-append (IsHeld n words) v.won w.won mine.0 theirs.0,
      All-append (IsFull n words) v.refused w.refused mine.1 theirs.1,
      λ z. absurd (omega (arith, z, some_weight)),
    ) in
    let s : IsView n words spent = (none (IsHeld n words), none (IsFull n words), λ z. (refl, refl)) in
    let same : (k : ℕ) → total (λ (u : View). times k (keys u.won)) (set (set views id both) other spent)
    ≡ total (λ (u : View). times k (keys u.won)) views =
    λ k. total_join (λ (u : View). times k (keys u.won)) views id v other w both spent at at' (times-keys_append k v.won w.won) refl in
    record {
      len = h.len;
      each = each_set (IsView n words) (set views id both) other spent s (each_set (IsView n words) views id both b h.each);
      weights = total_join (λ (u : View). u.weight) views id v other w both spent at at' refl refl ∙ h.weights;
      won = λ k kl. same k ∙ h.won k kl;
      outside = λ k past. same k ∙ h.outside k past;
    }

pub cut_ok : (n passes id : ℕ) (v : View) → 2 ≤ v.weight → v.won ≡ [] → v.refused ≡ [] → (words : List ℕ) (views : List View)
    → IsLawful n passes words views → get_elem? views id ≡ some v
    → IsLawful n passes words (set views id (view (v.weight - 1) v.won v.refused) ++ view 1 [] [] ∷ [])
cut_ok n passes id v two won refused words views h at =
    let left : View = view (v.weight - 1) v.won v.refused in
    let right : View = view 1 [] [] in
    let mine = h.each id v at in
    let l : IsView n words left = (mine.0, mine.1, λ z. (won, refused)) in
    let r : IsView n words right = (none (IsHeld n words), none (IsFull n words), λ z. (refl, refl)) in
    let same : (k : ℕ)
    → total (λ (u : View). times k (keys u.won)) (set views id left ++ right ∷ []) ≡ total (λ (u : View). times k (keys u.won)) views =
    λ k. total_split (λ (u : View). times k (keys u.won)) views id v left right at (omega arith) in
    record {
      len = h.len;
      each = each_snoc (IsView n words) (set views id left) right r (each_set (IsView n words) views id left l h.each);
      weights = total_split (λ (u : View). u.weight) views id v left right at (omega (arith, two)) ∙ h.weights;
      won = λ k kl. same k ∙ h.won k kl;
      outside = λ k past. same k ∙ h.outside k past;
    }

pub begins : (n passes : ℕ) (words : List ℕ) → length words ≡ n → ((k : ℕ) → k < n → slice_index words k ≡ EMPTY)
    → IsLawful n passes words (view passes [] [] ∷ [])
begins n passes words len empty = record {
  len = len;
  each = first;
  weights = omega arith;
  won = λ k kl. let e = empty k kl in grind (arith, nat_tests, e);
  outside = λ k past. omega arith;
}
  where
    first : Each (IsView n words) (view passes [] [] ∷ [])
    first zero v e =
        subst (IsView n words) (some-injective (view passes [] []) v e) (none (IsHeld n words), none (IsFull n words), λ z. (refl, refl))
    first (suc i) v e = absurd (some-ne-none v (sym e))

-- the view of the whole weight knows all pairs
module _ (n passes id : ℕ) (v : View) (words : List ℕ) (views : List View) (h : IsLawful n passes words views)
    (at : get_elem? views id ≡ some v) (all : v.weight ≡ passes) where
  whole : (k : ℕ) → total (λ (u : View). times k (keys u.won)) views ≡ times k (keys v.won)
  whole k = total_whole (λ (u : View). times k (keys u.won)) (λ (u : View). u.weight) views id v at (h.weights ∙ sym all)
      (λ i u e z. ap (λ l. times k (keys l)) ((h.each i u e).2 z).0)

  pub won_is : (k : ℕ) → k < n → times k (keys v.won) ≡ cond (slice_index words k == EMPTY) 0 1
  won_is k kl = sym (whole k) ∙ h.won k kl

  pub won_outside : (k : ℕ) → n ≤ k → times k (keys v.won) ≡ 0
  won_outside k past = sym (whole k) ∙ h.outside k past

  pub pairs_held : All (IsHeld n words) v.won
  pairs_held = (h.each id v at).0

  pub refused_full : All (IsFull n words) v.refused
  refused_full = (h.each id v at).1
