-- The passes are cut off one seat.
use Rattle.std.proofs.Common.{◌≡◌, ℕ, zero, suc, ◌+◌, ◌-◌, ◌<◌, ◌≤◌, Bool, true, false, true≢false, cond, List, [], ◌∷◌, ◌++◌, replicate}
use Rattle.std.proofs.Common.{length, slice_index_or, refl, sym, ap, ◌∙◌, arith, subst}
use Rattle.atomic_table.specs.declared.shared.Seat.{Seat}
use Rattle.mr_base.specs.Tasks.{times, total_of}
use Rattle.mr_base.proofs.Passes.{length-push, each_push}
use Rattle.mr_claims.specs.declared.view.View.{View}
use Rattle.mr_claims.specs.declared.claims.Claims.{Claims}
use Rattle.mr_claims.specs.declared.claims.ClaimPass.{ClaimPass}
use Rattle.mr_claims.specs.Lawful.{view}
use Rattle.mr_claims.specs.Passes.{IsPassOf, IsNew, number_of, given_to, has_ended}

-- pass i, which was given nothing yet
abbrev pub IsUnused : Claims → ℕ → ClaimPass → Type 0
IsUnused c i p = IsPassOf c p × (number_of p ≡ i) × (given_to p ≡ []) × (has_ended p ≡ false)

-- so many passes are cut off, and the seat has the rest of the weight
pub record Cutting (c : Claims) (seat : Seat ℕ View) (number : ℕ) (passes : List ClaimPass) : Type 0 where
  pub table : seat.table_id ≡ c.table.shared.table_id
  pub free : seat.me.1 ≡ []
  pub view_is : seat.me.0 ≡ view (total_of c.ranges) (length c.ranges) (length c.ranges - number) [] []
  pub len : length passes ≡ number
  pub each : (i : ℕ) (d : ClaimPass) → i < number → IsUnused c i (slice_index_or passes i d)

unused_is : (c : Claims) (seat : Seat ℕ View) (number : ℕ) (p : ClaimPass) → seat.table_id ≡ c.table.shared.table_id → seat.me.1 ≡ []
    → seat.me.0 ≡ view (total_of c.ranges) (length c.ranges) 1 [] [] → number < length c.ranges → IsNew seat number p → IsUnused c number p
unused_is c seat number p table free is lt new =
    let v : p.seat.me.0 ≡ view (total_of c.ranges) (length c.ranges) 1 [] [] = ap (λ (s : Seat ℕ View). s.me.0) new.0 ∙ is in
    let at = new.1 in (
      record {
        table = ap (λ (s : Seat ℕ View). s.table_id) new.0 ∙ table;
        free = ap (λ (s : Seat ℕ View). s.me.1) new.0 ∙ free;
        about = (ap (λ (u : View). u.tasks) v, ap (λ (u : View). u.queues) v);
        weight = ap (λ (u : View). u.weight) v;
        number = omega (arith, at, lt);
        wide = new.3;
        apart = λ x. let e = ap (λ (u : View). times x u.given) v in omega (arith, e);
        seen = λ q ql. ap (λ (u : View). times q u.ends) v ∙ sym (ap (λ (b : Bool). cond b 1 0) (new.4 q));
        ended = λ yes. absurd (true≢false (sym yes ∙ new.2));
      },
      at,
      ap (λ (u : View). u.given) v,
      new.2,
    )

-- one more is cut off
pub cut_one : (c : Claims) (seat after right : Seat ℕ View) (number : ℕ) (passes : List ClaimPass) (p : ClaimPass)
    → Cutting c seat number passes → number + 1 < length c.ranges
    → (after.table_id ≡ seat.table_id) × (after.me.1 ≡ []) × (right.table_id ≡ seat.table_id) × (right.me.1 ≡ [])
    → after.me.0 ≡ view seat.me.0.tasks seat.me.0.queues (seat.me.0.weight - 1) seat.me.0.given seat.me.0.ends
    → right.me.0 ≡ view seat.me.0.tasks seat.me.0.queues 1 [] []
    → IsNew right number p → Cutting c after (number + 1) (passes ++ p ∷ [])
cut_one c seat after right number passes p was lt same left cut new =
    let v = was.view_is in
    let n = length-push passes p in
    let len = was.len in
    record {
      table = same.0 ∙ was.table;
      free = same.1;
      view_is = left ∙ ap (λ (u : View). view u.tasks u.queues (u.weight - 1) u.given u.ends) v
          ∙ ap (λ w. view (total_of c.ranges) (length c.ranges) w [] []) (omega arith);
      len = omega (arith, n, len);
      each = each_push (IsUnused c) number passes p len was.each
          (unused_is c right number p (same.2 ∙ was.table) same.3 (cut ∙ ap (λ (u : View). view u.tasks u.queues 1 [] []) v)
          (omega (arith, lt)) new);
    }

-- the seat itself goes to the last
pub all_cut : (c : Claims) (seat : Seat ℕ View) (number : ℕ) (passes : List ClaimPass) (p : ClaimPass) → Cutting c seat number passes
    → number + 1 ≡ length c.ranges → IsNew seat number p
    → (length (passes ++ p ∷ []) ≡ length c.ranges)
    × ((i : ℕ) (d : ClaimPass) → i < length c.ranges → IsUnused c i (slice_index_or (passes ++ p ∷ []) i d))
all_cut c seat number passes p was last new =
    let n = length-push passes p in
    let len = was.len in
    let one : length c.ranges - number ≡ 1 = omega (arith, last) in (
      omega (arith, n, len, last),
      λ i d lt. each_push (IsUnused c) number passes p len was.each
          (unused_is c seat number p was.table was.free (was.view_is ∙ ap (λ w. view (total_of c.ranges) (length c.ranges) w [] []) one)
          (omega (arith, last)) new) i d (omega (arith, lt, last)),
    )

pub falses : (n q : ℕ) → slice_index_or (replicate n false) q false ≡ false
falses zero q = refl
falses (suc n) zero = refl
falses (suc n) (suc q) = falses n q
