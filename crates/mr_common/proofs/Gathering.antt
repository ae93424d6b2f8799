-- The passes of the array are made, and come together in one seat.
use Rattle.std.proofs.Common.{◌≡◌, ℕ, ℤ, ◌+◌, ◌-◌, ◌<◌, All, Contains, List, [], ◌∷◌, ◌++◌, map, flat_map, length, slice_index_or, refl}
use Rattle.std.proofs.Common.{sym, ap, ◌∙◌, arith, subst, append_assoc, append-nil}
use Rattle.std.specs.List.{IsDistinct}
use Rattle.std.specs.List.Sorted.{IsPermutation, IsStrictlySortedBy}
use Rattle.std.specs.Ordering.{eq_by_cmp, nat_cmp}
use Rattle.std.proofs.lemmas.Bool.Decides.{nat_tests}
use Rattle.std.proofs.lemmas.Map.Keys.{IsDistinct-from_sorted, IsDistinct-IsPermutation}
use Rattle.std.proofs.lemmas.List.Elements.{All-contains, Contains-get_or}
use Rattle.std.proofs.lemmas.Grind.{flat_map-append}
use Rattle.std.proofs.lemmas.List.Sorted.{IsPermutation-sym, IsPermutation-trans, IsPermutation-map, IsPermutation-append_comm}
use Rattle.std.proofs.lemmas.List.Sorted.{IsPermutation-append_right, Contains-permutation}
use mathlib.Core.Option.{some}
use lib.ListN.{get_elem?}
use Rattle.atomic_table.specs.declared.shared.Seat.{Seat}
use Rattle.atomic_table.specs.Seated.{TableId}
use Rattle.mr_base.specs.Tasks.{times}
use Rattle.mr_base.proofs.Passes.{length-push, each_push, last_of, before_of}
use Rattle.mr_common.specs.declared.view.View.{View}
use Rattle.mr_common.specs.declared.common.CommonPass.{CommonPass}
use Rattle.mr_common.specs.Lawful.{view, keys, IsLawful}
use Rattle.mr_common.specs.Passes.{IsPassOf, ArePassesOf, IsUnused, pairs_to, row_of, won, refused}
use Rattle.mr_common.proofs.Steps.{won_is, won_outside, pairs_held, refused_full}
use Rattle.mr_common.proofs.Rows.{ascending, same_pairs, refused_won}

-- so many passes are cut off, and the seat has the rest of the weight
abbrev pub IsNew : TableId → ℕ → CommonPass → Type 0
IsNew table n p = IsPassOf table n p × IsUnused p

pub record Cutting (table : TableId) (n passes count : ℕ) (seat : Seat ℕ View) (made : List CommonPass) : Type 0 where
  pub of : seat.table_id ≡ table
  pub free : seat.me.1 ≡ []
  pub view_is : seat.me.0 ≡ view (passes - count) [] []
  pub len : length made ≡ count
  pub each : (i : ℕ) (d : CommonPass) → i < count → IsNew table n (slice_index_or made i d)

new_is : (table : TableId) (n : ℕ) (p : CommonPass) → p.seat.table_id ≡ table → p.seat.me.1 ≡ [] → p.seat.me.0 ≡ view 1 [] []
    → IsNew table n p
new_is table n p of free is = (
  (of, free, ap (λ (u : View). u.weight) is, λ x. let e = ap (λ (u : View). times x (keys u.won)) is in omega (arith, e)),
  (ap (λ (u : View). u.won) is, ap (λ (u : View). u.refused) is),
)

pub cut_one : (table : TableId) (n passes count : ℕ) (seat after right : Seat ℕ View) (made : List CommonPass) (p : CommonPass)
    → Cutting table n passes count seat made → p.seat ≡ right
    → (after.table_id ≡ seat.table_id) × (after.me.1 ≡ []) × (right.table_id ≡ seat.table_id) × (right.me.1 ≡ [])
    → after.me.0 ≡ view (seat.me.0.weight - 1) seat.me.0.won seat.me.0.refused → right.me.0 ≡ view 1 [] []
    → Cutting table n passes (count + 1) after (made ++ p ∷ [])
cut_one table n passes count seat after right made p was is same left cut =
    let l = length-push made p in
    let len = was.len in
    record {
      of = same.0 ∙ was.of;
      free = same.1;
      view_is = left ∙ ap (λ (u : View). view (u.weight - 1) u.won u.refused) was.view_is ∙ ap (λ w. view w [] []) (omega arith);
      len = omega (arith, l, len);
      each = each_push (λ i. IsNew table n) count made p len was.each
          (subst (λ (s : Seat ℕ View). IsNew table n (record { seat = s })) (sym is)
          (new_is table n (record { seat = right }) (same.2 ∙ was.of) same.3 cut));
    }

pub all_cut : (table : TableId) (n passes count : ℕ) (seat : Seat ℕ View) (made : List CommonPass) (p : CommonPass)
    → Cutting table n passes count seat made → p.seat ≡ seat → count + 1 ≡ passes
    → (length (made ++ p ∷ []) ≡ passes) × ((i : ℕ) (d : CommonPass) → i < passes → IsNew table n (slice_index_or (made ++ p ∷ []) i d))
all_cut table n passes count seat made p was is last =
    let l = length-push made p in
    let len = was.len in
    let one : passes - count ≡ 1 = omega (arith, last) in
    let new = new_is table n (record { seat = seat }) was.of was.free (was.view_is ∙ ap (λ w. view w [] []) one) in (
      omega (arith, l, len, last),
      λ i d lt. each_push (λ i. IsNew table n) count made p len was.each
          (subst (λ (s : Seat ℕ View). IsNew table n (record { seat = s })) (sym is) new) i d (omega (arith, lt, last)),
    )

-- the lists of passes joined, where one more is last
flat_map-push : {X : Type 0} (f : CommonPass → List X) (ps : List CommonPass) (p : CommonPass)
    → flat_map f (ps ++ p ∷ []) ≡ flat_map f ps ++ f p
flat_map-push f ps p = flat_map-append f ps (p ∷ []) ∙ ap (λ l. flat_map f ps ++ l) (append-nil (f p))

-- what was left to come is now beside what was there
moved : {X : Type 0} (all here rest last : List X) → IsPermutation all (here ++ (rest ++ last)) → IsPermutation all ((here ++ last) ++ rest)
moved all here rest last p = IsPermutation-trans all (here ++ (rest ++ last)) ((here ++ last) ++ rest) p
    (subst (λ l. IsPermutation (here ++ (rest ++ last)) l) (sym (append_assoc here last rest))
    (IsPermutation-append_right here (rest ++ last) (last ++ rest) (IsPermutation-append_comm rest last)))

-- the seat has all but the weight of the passes that are left, and what the others won and were refused
pub record Gathers (table : TableId) (n passes : ℕ) (seat : Seat ℕ View) (left all : List CommonPass) : Type 0 where
  pub of : seat.table_id ≡ table
  pub free : seat.me.1 ≡ []
  pub weight : seat.me.0.weight + length left ≡ passes
  pub some_weight : 0 < seat.me.0.weight
  pub won : IsPermutation (flat_map won all) (seat.me.0.won ++ flat_map won left)
  pub refused : IsPermutation (flat_map refused all) (seat.me.0.refused ++ flat_map refused left)
  pub each : ArePassesOf table n left

module _ (table : TableId) (n passes : ℕ) (left : List CommonPass) (p : CommonPass) where
  mine : ArePassesOf table n (left ++ p ∷ []) → IsPassOf table n p
  mine h = last_of (λ i. IsPassOf table n) left p h

  rest : ArePassesOf table n (left ++ p ∷ []) → ArePassesOf table n left
  rest h = before_of (λ i. IsPassOf table n) left p h

  pub begins : (all : List CommonPass) → all ≡ left ++ p ∷ [] → length all ≡ passes → ArePassesOf table n all
      → Gathers table n passes p.seat left all
  begins all is len each =
      let h = subst (ArePassesOf table n) is each in
      let m = mine h in
      let l = length-push left p in
      let a = ap length is in
      let w = m.2 in
      record {
        of = m.0;
        free = m.1;
        weight = omega (arith, len, l, a, w);
        some_weight = omega (arith, w);
        won = subst (λ l. IsPermutation l (won p ++ flat_map won left)) (sym (ap (flat_map won) is ∙ flat_map-push won left p))
            (IsPermutation-append_comm (flat_map won left) (won p));
        refused = subst (λ l. IsPermutation l (refused p ++ flat_map refused left))
            (sym (ap (flat_map refused) is ∙ flat_map-push refused left p)) (IsPermutation-append_comm (flat_map refused left) (refused p));
        each = rest h;
      }

  module _ (seat : Seat ℕ View) (now all : List CommonPass) (g : Gathers table n passes seat now all) (is : now ≡ left ++ p ∷ []) where
    here : ArePassesOf table n (left ++ p ∷ [])
    here = subst (ArePassesOf table n) is g.each

    pub next_seat : (p.seat.table_id ≡ table) × (p.seat.me.1 ≡ [])
    next_seat = let m = mine here in (m.0, m.1)

    pub goes_on : (after : Seat ℕ View) → after.table_id ≡ seat.table_id → after.me.1 ≡ []
        → after.me.0 ≡ view (seat.me.0.weight + p.seat.me.0.weight) (seat.me.0.won ++ p.seat.me.0.won)
        (seat.me.0.refused ++ p.seat.me.0.refused) → Gathers table n passes after left all
    goes_on after of free views =
        let m = mine here in
        let l = length-push left p in
        let a = ap length is in
        let w = m.2 in
        let gw = g.weight in
        let gs = g.some_weight in
        let v : after.me.0.weight ≡ seat.me.0.weight + p.seat.me.0.weight = ap (λ (u : View). u.weight) views in
        record {
          of = of ∙ g.of;
          free = free;
          weight = omega (arith, gw, l, a, w, v);
          some_weight = omega (arith, v, gs);
          won = subst (λ (u : View). IsPermutation (flat_map won all) (u.won ++ flat_map won left)) (sym views)
              (moved (flat_map won all) seat.me.0.won (flat_map won left) (won p)
              (subst (λ l. IsPermutation (flat_map won all) (seat.me.0.won ++ l)) (ap (flat_map won) is ∙ flat_map-push won left p) g.won));
          refused = subst (λ (u : View). IsPermutation (flat_map refused all) (u.refused ++ flat_map refused left)) (sym views)
              (moved (flat_map refused all) seat.me.0.refused (flat_map refused left) (refused p)
              (subst (λ l. IsPermutation (flat_map refused all) (seat.me.0.refused ++ l))
              (ap (flat_map refused) is ∙ flat_map-push refused left p) g.refused));
          each = rest here;
        }

keys_of_rows : (ps : List (ℕ × ℤ)) → map (λ (row : ℕ × List ℤ). row.0) (map row_of ps) ≡ keys ps
keys_of_rows [] = refl
keys_of_rows (p ∷ ps) = ap (λ l. p.0 ∷ l) (keys_of_rows ps)

-- none is left: the last state of the words has all that was won
module _ (table : TableId) (n passes : ℕ) (seat : Seat ℕ View) (now all : List CommonPass) (g : Gathers table n passes seat now all)
    (none : now ≡ []) (words : List ℕ) (views : List View)
    (held : IsLawful n passes words views) (at : get_elem? views seat.id ≡ some seat.me.0) where
  whole : seat.me.0.weight ≡ passes
  whole = let a = ap length none in let w = g.weight in omega (arith, a, w)

  all_won : IsPermutation (flat_map won all) seat.me.0.won
  all_won = subst (IsPermutation (flat_map won all)) (ap (λ l. seat.me.0.won ++ flat_map won l) none ∙ append-nil seat.me.0.won) g.won

  all_refused : IsPermutation (flat_map refused all) seat.me.0.refused
  all_refused = subst (IsPermutation (flat_map refused all))
      (ap (λ l. seat.me.0.refused ++ flat_map refused l) none ∙ append-nil seat.me.0.refused) g.refused

  pub end_pairs : IsPermutation (flat_map won all) (pairs_to words n)
  end_pairs = IsPermutation-trans (flat_map won all) seat.me.0.won (pairs_to words n) all_won
      (same_pairs words n seat.me.0.won (pairs_held n passes seat.id seat.me.0 words views held at whole)
      (won_is n passes seat.id seat.me.0 words views held at whole)
      (won_outside n passes seat.id seat.me.0 words views held at whole))

  pub end_refused : All (Contains (keys (flat_map won all))) (flat_map refused all)
  end_refused i d lt =
      let k : ℕ = slice_index_or (flat_map refused all) i d in
      let r = refused_won words n seat.me.0.won (pairs_held n passes seat.id seat.me.0 words views held at whole)
      (won_is n passes seat.id seat.me.0 words views held at whole)
      (won_outside n passes seat.id seat.me.0 words views held at whole) seat.me.0.refused
      (refused_full n passes seat.id seat.me.0 words views held at whole) in
      Contains-permutation (keys seat.me.0.won) (keys (flat_map won all)) k
      (IsPermutation-map (λ p. p.0) seat.me.0.won (flat_map won all) (IsPermutation-sym (flat_map won all) seat.me.0.won all_won))
      (All-contains (Contains (keys seat.me.0.won)) seat.me.0.refused k r
      (Contains-permutation (flat_map refused all) seat.me.0.refused k all_refused (Contains-get_or (flat_map refused all) i d lt)))

  pub end_ascending : IsStrictlySortedBy nat_cmp (map (λ (row : ℕ × List ℤ). row.0) (map row_of (pairs_to words n)))
  end_ascending = subst (IsStrictlySortedBy nat_cmp) (sym (keys_of_rows (pairs_to words n))) (ascending words n)

  pub end_rows : IsPermutation (map row_of (flat_map won all)) (map row_of (pairs_to words n))
  end_rows = IsPermutation-map row_of (flat_map won all) (pairs_to words n) end_pairs

  pub end_differ : IsDistinct (eq_by_cmp nat_cmp) (keys (flat_map won all))
  end_differ =
      IsDistinct-IsPermutation (eq_by_cmp nat_cmp) (λ x y. grind (arith, nat_tests)) (keys (pairs_to words n)) (keys (flat_map won all))
      (IsPermutation-map (λ p. p.0) (pairs_to words n) (flat_map won all)
      (IsPermutation-sym (flat_map won all) (pairs_to words n) end_pairs))
      (IsDistinct-from_sorted nat_cmp (keys (pairs_to words n)) (ascending words n))
