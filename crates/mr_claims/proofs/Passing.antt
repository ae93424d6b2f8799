-- A pass after a claim.
use Rattle.std.proofs.Common.{◌≡◌, ◌≢◌, ℕ, ◌+◌, ◌-◌, ◌<◌, ◌≤◌, ◌==◌, ◌⊎◌, Bool, true, false, true≢false, cond, nat_lt, List, [], ◌∷◌, ◌++◌}
use Rattle.std.proofs.Common.{length, length-set, slice_index_or, slice_set, refl, sym, ap, ◌∙◌, arith, subst, ⊎_elim}
use Rattle.std.specs.List.Sorted.{IsPermutation}
use Rattle.std.proofs.lemmas.Bool.Decides.{nat_tests}
use Rattle.std.proofs.lemmas.List.{get_or-set_same, get_or-set_other}
use Rattle.std.proofs.lemmas.List.Sorted.{IsPermutation-refl}
use mathlib.Core.Logic.{dite}
use native.Mathlib.Decide.{ℕ_discrete, dec_lt}
use Rattle.atomic_table.specs.declared.shared.Seat.{Seat}
use Rattle.mr_base.specs.Tasks.{times, total_of, IsApartBelow}
use Rattle.mr_base.proofs.Starts.{start_below}
use Rattle.mr_base.proofs.Times.{times-snoc}
use Rattle.mr_claims.specs.declared.view.View.{View}
use Rattle.mr_claims.specs.declared.claims.Claims.{Claims}
use Rattle.mr_claims.specs.declared.claims.ClaimPass.{ClaimPass}
use Rattle.mr_claims.specs.Lawful.{view, end_of, Claimed}
use Rattle.mr_claims.specs.Passes.{IsPassOf, HasSeenEnd, queue_after}

-- it was given a task of queue q
pub was_given : (c : Claims) (p : ClaimPass) (q n : ℕ) (seat : Seat ℕ View) → IsPassOf c p → q < length c.ranges
    → Claimed q p.seat.me.0 n seat.me.0
    → n < end_of (total_of c.ranges) (length c.ranges) q → (n < total_of c.ranges) × (seat.me.0.given ≡ p.seat.me.0.given ++ n ∷ [])
was_given c p q n seat is lt told below =
    let inside = start_below (total_of c.ranges) (length c.ranges) (q + 1) (omega (arith, lt)) (omega (arith, lt)) in
    let fits : end_of p.seat.me.0.tasks p.seat.me.0.queues q ≡ end_of (total_of c.ranges) (length c.ranges) q =
    rw (is.about.0, is.about.1) refl in (
      omega (arith, below, inside),
      ⊎_elim (λ a. ap (λ (v : View). v.given) a.1) (λ b. absurd (let past = b.0 in omega (arith, past, below, fits))) told.1,
    )

-- it saw the end of queue q
pub saw_end : (c : Claims) (p : ClaimPass) (q n : ℕ) (seat : Seat ℕ View) → IsPassOf c p → q < length c.ranges → p.ended ≡ false
    → slice_index_or p.seen q false ≡ false
    → seat.table_id ≡ p.seat.table_id → seat.me.1 ≡ [] → Claimed q p.seat.me.0 n seat.me.0
    → end_of (total_of c.ranges) (length c.ranges) q ≤ n → length c.ranges ≤ 32
    → IsPassOf c (record { seat = seat; number = p.number; seen = slice_set p.seen q true; ended = p.ended })
saw_end c p q n seat is lt opened unseen table free told past small =
    let room : q < length p.seen = (let l = is.wide in omega (arith, l, lt, small)) in
    let fits : end_of p.seat.me.0.tasks p.seat.me.0.queues q ≡ end_of (total_of c.ranges) (length c.ranges) q =
    rw (is.about.0, is.about.1) refl in
    let w : seat.me.0 ≡ view p.seat.me.0.tasks p.seat.me.0.queues p.seat.me.0.weight p.seat.me.0.given (p.seat.me.0.ends ++ q ∷ []) =
    ⊎_elim (λ a. absurd (let b = a.0 in omega (arith, b, past, fits))) (λ b. b.1) told.1 in
    record {
      table = table ∙ is.table;
      free = free;
      about = (ap (λ (v : View). v.tasks) w ∙ is.about.0, ap (λ (v : View). v.queues) w ∙ is.about.1);
      weight = ap (λ (v : View). v.weight) w ∙ is.weight;
      number = is.number;
      wide = length-set p.seen q true ∙ is.wide;
      apart = subst (λ t. IsApartBelow t seat.me.0.given) is.about.0 told.0;
      seen = λ r rl.
          let e : times r seat.me.0.ends ≡ times r (p.seat.me.0.ends ++ q ∷ []) = ap (λ (v : View). times r v.ends) w in
          let s = times-snoc r p.seat.me.0.ends q in
          let b = is.seen r rl in
          dite (ℕ_discrete r q)
          (λ same. let k : slice_index_or (slice_set p.seen q true) r false
          ≡ true =
          subst (λ j. slice_index_or (slice_set p.seen q true) j false ≡ true) (sym same) (get_or-set_same p.seen q true false room) in
          let z : slice_index_or p.seen r false ≡ false = subst (λ j. slice_index_or p.seen j false ≡ false) (sym same) unseen in
          let b' : times r p.seat.me.0.ends ≡ 0 = b ∙ ap (λ (x : Bool). cond x 1 0) z in
          rw k (grind (arith, nat_tests, e, s, b', same)))
          (λ ne. let k = get_or-set_other p.seen q r true false ne in
          rw k
          (let b'' : times r (p.seat.me.0.ends ++ q ∷ []) ≡ times r p.seat.me.0.ends = grind (arith, nat_tests, s, ne) in e ∙ b'' ∙ b));
      ended = λ yes. absurd (true≢false (sym yes ∙ opened));
    }

-- the queues at which it looked are all of them
all_of : (n w : ℕ) (seen : List Bool) → w < n → ((k : ℕ) → k < n → slice_index_or seen (queue_after n w k) false ≡ true) → (q : ℕ) → q < n
    → slice_index_or seen q false ≡ true
all_of n w seen lt h q ql =
    dite (dec_lt q w)
    (λ below. let at : queue_after n w (q + n - w) ≡ q = grind (arith, nat_tests, below, ql, lt) in
    subst (λ j. slice_index_or seen j false ≡ true) at (h (q + n - w) (omega (arith, below, lt))))
    (λ no. let at : queue_after n w (q - w) ≡ q = grind (arith, nat_tests, no, ql, lt) in
    subst (λ j. slice_index_or seen j false ≡ true) at (h (q - w) (omega (arith, no, ql))))

pub every_end : (c : Claims) (p : ClaimPass) → IsPassOf c p
    → ((k : ℕ) → k < length c.ranges → slice_index_or p.seen (queue_after (length c.ranges) p.number k) false ≡ true)
    → (q : ℕ) → q < length c.ranges → HasSeenEnd p q
every_end c p is h q lt = is.seen q lt ∙ ap (λ (b : Bool). cond b 1 0) (all_of (length c.ranges) p.number p.seen is.number h q lt)

-- so it may answer None
pub ends : (c : Claims) (p : ClaimPass) → IsPassOf c p
    → ((k : ℕ) → k < length c.ranges → slice_index_or p.seen (queue_after (length c.ranges) p.number k) false ≡ true)
    → IsPassOf c (record { seat = p.seat; number = p.number; seen = p.seen; ended = true })
ends c p is h = record {
  table = is.table;
  free = is.free;
  about = is.about;
  weight = is.weight;
  number = is.number;
  wide = is.wide;
  apart = is.apart;
  seen = is.seen;
  ended = λ yes. every_end c p is h;
}

pub in_this_order : (xs ys : List ℕ) → ys ≡ xs → IsPermutation xs ys
in_this_order xs ys e = subst (λ l. IsPermutation xs l) (sym e) (IsPermutation-refl xs)
