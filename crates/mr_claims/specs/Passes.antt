-- What a pass of the claimed ranges is, and what it was given and has seen.
use Rattle.std.specs.Prelude.{◌≡◌, ℕ, ◌+◌, ◌-◌, ◌<◌, ◌≤◌, Bool, true, false, cond, nat_lt, List, [], length, slice_index_or}
use Rattle.mr_base.specs.Tasks.{times, total_of, IsApartBelow}
use Rattle.atomic_table.specs.declared.shared.Seat.{Seat}
use Rattle.mr_claims.specs.declared.view.View.{View}
use Rattle.mr_claims.specs.declared.claims.Claims.{Claims}
use Rattle.mr_claims.specs.declared.claims.ClaimPass.{ClaimPass}

abbrev pub number_of : ClaimPass → ℕ
number_of p = p.number

abbrev pub given_to : ClaimPass → List ℕ
given_to p = p.seat.me.0.given

abbrev pub has_ended : ClaimPass → Bool
has_ended p = p.ended

-- it has this seat and number, and has not looked at any queue
abbrev pub IsNew : Seat ℕ View → ℕ → ClaimPass → Type 0
IsNew seat number p =
    (p.seat ≡ seat) × (p.number ≡ number) × (p.ended ≡ false) × (length p.seen ≡ 32) × ((q : ℕ) → slice_index_or p.seen q false ≡ false)

-- a claim of this pass found queue q at its end
abbrev pub HasSeenEnd : ClaimPass → ℕ → Type 0
HasSeenEnd p q = times q p.seat.me.0.ends ≡ 1

-- the queue at which pass w of n looks after k others
abbrev pub queue_after : ℕ → ℕ → ℕ → ℕ
queue_after n w k = cond (nat_lt (w + k) n) (w + k) ((w + k) - n)

pub record IsPassOf (c : Claims) (p : ClaimPass) : Type 0 where
  pub table : p.seat.table_id ≡ c.table.shared.table_id
  pub free : p.seat.me.1 ≡ []
  pub about : (p.seat.me.0.tasks ≡ total_of c.ranges) × (p.seat.me.0.queues ≡ length c.ranges)
  pub weight : p.seat.me.0.weight ≡ 1
  pub number : p.number < length c.ranges
  pub wide : length p.seen ≡ 32
  pub apart : IsApartBelow (total_of c.ranges) p.seat.me.0.given
  pub seen : (q : ℕ) → q < length c.ranges → times q p.seat.me.0.ends ≡ cond (slice_index_or p.seen q false) 1 0
  pub ended : p.ended ≡ true → (q : ℕ) → q < length c.ranges → HasSeenEnd p q
