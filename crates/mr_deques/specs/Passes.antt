-- What a pass of the deques is.
use Rattle.std.specs.Prelude.{flat_map, ◌≡◌, ◌≢◌, ℕ, ◌+◌, ◌-◌, ◌<◌, ◌≤◌, Bool, true, false, cond, nat_lt, List, [], ◌∷◌, ◌++◌, length}
use Rattle.std.specs.Prelude.{slice_index_or, Option, Some, None}
use Rattle.atomic_blocks.specs.Lent.{RowsId}
use Rattle.crossbeam_deque.specs.Handles.{Pass, view as pass_view, IsPassOf as IsGuestOf, worker_deque, worker_flavor, worker_view}
use Rattle.crossbeam_deque.specs.Handles.{stealer_deque, stealer_flavor}
use Rattle.mr_base.specs.Tasks.{total_of, times, start_of, IsApartBelow}
use Rattle.mr_deques.specs.declared.view.View.{View}
use Rattle.mr_deques.specs.declared.deques.Deques.{Deques}
use Rattle.mr_deques.specs.declared.passes.DequePass.{DequePass}
use Rattle.mr_deques.specs.Lawful.{view, about, marks}

-- the numbers of the list below e
abbrev pub below : ℕ → List ℕ → List ℕ
below e [] = []
below e (x ∷ xs) = cond (nat_lt x e) (x ∷ below e xs) (below e xs)

-- the tasks in the list of a view
abbrev pub tasks_of : View → List ℕ
tasks_of v = below v.about.end v.list

abbrev pub guest_tasks : {A : Type 0} → Option (Pass ℕ View A) → List ℕ
guest_tasks None = []
guest_tasks (Some g) = tasks_of (pass_view g)

-- the tasks that came out of all deques to the pass
abbrev pub given_to : DequePass → List ℕ
given_to p = tasks_of (worker_view p.own) ++ flat_map guest_tasks p.guests.items

abbrev pub number_of : DequePass → ℕ
number_of p = p.number

abbrev pub has_ended : DequePass → Bool
has_ended p = p.ended

-- whether an end mark of deque q is noted
abbrev pub has_mark : DequePass → ℕ → Bool
has_mark p q = slice_index_or p.marked q false

-- an end mark of its own deque came to the pass
abbrev pub HasEndMark : DequePass → Type 0
HasEndMark p = let v = worker_view p.own in marks v.about.end v.list ≡ 1

-- a full view of deque q
abbrev pub IsPart : Deques → ℕ → View → Type 0
IsPart d q v = (v.about ≡ about (start_of (total_of d.ranges) (length d.ranges) q) (start_of (total_of d.ranges) (length d.ranges) (q + 1))
    (length d.ranges)) × (v.full ≡ true)
    × ((y : ℕ) → y < start_of (total_of d.ranges) (length d.ranges) q → times y v.list ≡ 0)

-- the view of deque q in a pass at work
abbrev pub IsSeen : Deques → List Bool → ℕ → View → Type 0
IsSeen d marked q v =
    IsPart d q v × (v.weight ≡ 1) × (marks v.about.end v.list ≡ cond (slice_index_or marked q false) 1 0) × ((y : ℕ) → times y v.list ≤ 1)

abbrev pub IsGuest : {A : Type 0} → (View → Type 0) → RowsId × A → Option (Pass ℕ View A) → Type 0
IsGuest F deque None = ⊥
IsGuest F deque (Some g) = IsGuestOf deque g × F (pass_view g)

-- pass i has the views of the first len deques, its own one in its owner
pub record Holds (d : Deques) (i len : ℕ) (Own : View → Type 0) (Other : ℕ → View → Type 0) (p : DequePass) : Type 0 where
  pub number : p.number ≡ i
  pub wide : length p.marked ≡ 32
  pub length_is : length p.guests.items ≡ len
  pub deque : (t : _) → worker_deque p.own ≡ stealer_deque (slice_index_or d.thieves.items i t)
  pub flavor : worker_flavor p.own ≡ 0
  pub own : Own (worker_view p.own)
  pub gap : slice_index_or p.guests.items i None ≡ None
  pub guest : (q : ℕ) (t : _) → q < len → q ≢ i
      → IsGuest (Other q) (stealer_deque (slice_index_or d.thieves.items q t)) (slice_index_or p.guests.items q None)

abbrev pub IsSound : Deques → Type 0
IsSound d = (length d.thieves.items ≡ length d.ranges)
    × ((q : ℕ) (t : _) → q < length d.ranges → stealer_flavor (slice_index_or d.thieves.items q t) ≡ 0)

pub record IsPassOf (d : Deques) (p : DequePass) : Type 0 where
  pub sound : IsSound d
  pub number : p.number < length d.ranges
  pub holds : Holds d p.number (length d.ranges) (IsSeen d p.marked p.number) (IsSeen d p.marked) p
  pub apart : IsApartBelow (total_of d.ranges) (given_to p)
  pub ended : p.ended ≡ true → slice_index_or p.marked p.number false ≡ true
