-- The passes come together in one seat.
use Rattle.std.proofs.Common.{◌≡◌, ℕ, ◌+◌, ◌<◌, ◌≤◌, Bool, true, cond, nat_lt, List, [], ◌∷◌, ◌++◌, length, flat_map, slice_index_or, refl}
use Rattle.std.proofs.Common.{sym, ap, ◌∙◌, arith, subst}
use mathlib.Core.Option.{some}
use lib.ListN.{get_elem?}
use Rattle.atomic_table.specs.declared.shared.Seat.{Seat}
use Rattle.mr_base.specs.Tasks.{times, total_of, AreAll, AreAllGiven, HaveEnded}
use Rattle.mr_base.proofs.Times.{times-append}
use Rattle.mr_base.proofs.Bridge.{once_permuted}
use Rattle.mr_base.proofs.Passes.{length-push, last_of, before_of, times-push}
use Rattle.mr_claims.specs.declared.view.View.{View}
use Rattle.mr_claims.specs.declared.claims.Claims.{Claims}
use Rattle.mr_claims.specs.declared.claims.ClaimPass.{ClaimPass}
use Rattle.mr_claims.specs.Lawful.{view, IsLawful}
use Rattle.mr_claims.specs.Passes.{IsPassOf, number_of, given_to, has_ended}
use Rattle.mr_claims.proofs.Steps.{whole_ok}

abbrev pub lists : List ClaimPass → List ℕ
lists ps = flat_map given_to ps

-- the seat has all but the weight of the passes that are left, and what the others were given
pub record Gathers (c : Claims) (seat : Seat ℕ View) (left all : List ClaimPass) : Type 0 where
  pub table : seat.table_id ≡ c.table.shared.table_id
  pub free : seat.me.1 ≡ []
  pub weight : seat.me.0.weight + length left ≡ length c.ranges
  pub some_weight : 0 < seat.me.0.weight
  pub seen : (q : ℕ) → q < length c.ranges → 1 ≤ times q seat.me.0.ends
  pub given : (x : ℕ) → times x seat.me.0.given + times x (lists left) ≡ times x (lists all)
  pub passes : (i : ℕ) (d : ClaimPass) → i < length left → IsPassOf c (slice_index_or left i d)

begins : (c : Claims) (left : List ClaimPass) (p : ClaimPass) → AreAll (length c.ranges) (IsPassOf c) number_of (left ++ p ∷ [])
    → HaveEnded has_ended (left ++ p ∷ []) → Gathers c p.seat left (left ++ p ∷ [])
begins c left p every ended =
    let each : (i : ℕ) (d : ClaimPass) → i < length (left ++ p ∷ []) → IsPassOf c (slice_index_or (left ++ p ∷ []) i d) =
    λ i d lt. (every.1 i d (let e = every.0 in omega (arith, e, lt))).0 in
    let is = last_of (λ i. IsPassOf c) left p each in
    let end = last_of (λ i (u : ClaimPass). has_ended u ≡ true) left p ended in
    let n = length-push left p in
    let len = every.0 in
    let one = is.weight in
    record {
      table = is.table;
      free = is.free;
      weight = omega (arith, len, n, one);
      some_weight = omega (arith, one);
      seen = λ q lt. let s = is.ended end q lt in omega (arith, s);
      given = λ x. let s = times-push given_to left p x in omega (arith, s);
      passes = before_of (λ i. IsPassOf c) left p each;
    }

goes_on : (c : Claims) (seat after : Seat ℕ View) (left all : List ClaimPass) (p : ClaimPass) → Gathers c seat (left ++ p ∷ []) all
    → after.table_id ≡ seat.table_id → after.me.1 ≡ []
    → after.me.0 ≡ view seat.me.0.tasks seat.me.0.queues (seat.me.0.weight + p.seat.me.0.weight) (seat.me.0.given ++ p.seat.me.0.given)
    (seat.me.0.ends ++ p.seat.me.0.ends)
    → Gathers c after left all
goes_on c seat after left all p g table free is =
    let mine = last_of (λ i. IsPassOf c) left p g.passes in
    let n = length-push left p in
    let one = mine.weight in
    let w : after.me.0.weight ≡ seat.me.0.weight + p.seat.me.0.weight = ap (λ (v : View). v.weight) is in
    let gw = g.weight in
    let gs = g.some_weight in
    record {
      table = table ∙ g.table;
      free = free;
      weight = omega (arith, w, gw, n, one);
      some_weight = omega (arith, w, gs);
      seen = λ q lt. let s = g.seen q lt in let a = ap (λ (v : View). times q v.ends) is in
          let b = times-append q seat.me.0.ends p.seat.me.0.ends in omega (arith, s, a, b);
      given = λ x. let s = g.given x in let a = ap (λ (v : View). times x v.given) is in
          let b = times-append x seat.me.0.given p.seat.me.0.given in let l = times-push given_to left p x in omega (arith, s, a, b, l);
      passes = before_of (λ i. IsPassOf c) left p g.passes;
    }

pub begins_at : (c : Claims) (all left : List ClaimPass) (p : ClaimPass) → all ≡ left ++ p ∷ []
    → AreAll (length c.ranges) (IsPassOf c) number_of all → HaveEnded has_ended all → Gathers c p.seat left all
begins_at c all left p is every ended = subst (Gathers c p.seat left) (sym is)
    (begins c left p (subst (AreAll (length c.ranges) (IsPassOf c) number_of) is every) (subst (HaveEnded has_ended) is ended))

pub next_of : (c : Claims) (seat : Seat ℕ View) (now left all : List ClaimPass) (p : ClaimPass) → Gathers c seat now all
    → now ≡ left ++ p ∷ [] → IsPassOf c p
next_of c seat now left all p g is = last_of (λ i. IsPassOf c) left p (subst (λ (l : List ClaimPass). Gathers c seat l all) is g).passes

pub goes_on_at : (c : Claims) (seat after : Seat ℕ View) (now left all : List ClaimPass) (p : ClaimPass) → Gathers c seat now all
    → now ≡ left ++ p ∷ []
    → after.table_id ≡ seat.table_id → after.me.1 ≡ []
    → after.me.0 ≡ view seat.me.0.tasks seat.me.0.queues (seat.me.0.weight + p.seat.me.0.weight) (seat.me.0.given ++ p.seat.me.0.given)
    (seat.me.0.ends ++ p.seat.me.0.ends)
    → Gathers c after left all
goes_on_at c seat after now left all p g is = goes_on c seat after left all p (subst (λ (l : List ClaimPass). Gathers c seat l all) is g)

-- none is left: each task was given once
pub ends_at : (c : Claims) (seat : Seat ℕ View) (now all : List ClaimPass) → Gathers c seat now all → now ≡ []
    → (words : List ℕ) (views : List View)
    → IsLawful (total_of c.ranges) (length c.ranges) words views → get_elem? views seat.id ≡ some seat.me.0
    → AreAllGiven (total_of c.ranges) given_to all
ends_at c seat now all g none words views held at =
    let g' = subst (λ (l : List ClaimPass). Gathers c seat l all) none g in
    let gw = g'.weight in
    once_permuted (total_of c.ranges) (lists all) (λ x.
    let whole = whole_ok (total_of c.ranges) (length c.ranges) seat.id seat.me.0 words views held at (omega (arith, gw)) g'.seen x in
    let gx = g'.given x in
    let same : times x seat.me.0.given ≡ times x (lists all) = omega (arith, gx) in
    sym same ∙ whole)
