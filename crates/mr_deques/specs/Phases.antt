-- What the passes are while deques are shared out, and while their views come together again.
use Rattle.std.specs.Prelude.{◌≡◌, ℕ, ◌+◌, ◌<◌, ◌≤◌, true, false, cond, nat_lt, List, [], length, slice_index_or}
use Rattle.crossbeam_deque.specs.Handles.{worker_flavor, worker_view}
use Rattle.mr_base.specs.Tasks.{times, total_of, start_of}
use Rattle.mr_deques.specs.declared.view.View.{View}
use Rattle.mr_deques.specs.declared.deques.Deques.{Deques}
use Rattle.mr_deques.specs.declared.passes.DequePass.{DequePass}
use Rattle.mr_deques.specs.Lawful.{view, about, marks}
use Rattle.mr_deques.specs.Passes.{IsPart, IsSound, Holds}

-- while the deques are shared out: the first q are, and of deque q the first w passes have their view
pub record Sharing (d : Deques) (q w : ℕ) (ps : List DequePass) : Type 0 where
  pub sound : IsSound d
  pub length_is : length ps ≡ length d.ranges
  pub each : (i : ℕ) (e : DequePass) → i < length d.ranges
      → Holds d i (cond (nat_lt i w) (q + 1) q)
      (λ v. IsPart d i v × (v.list ≡ []) × (i < q → v.weight ≡ 1) × (i ≡ q → v.weight + w ≡ length d.ranges + cond (nat_lt q w) 1 0)
      × (q < i → v.weight ≡ length d.ranges))
      (λ j v. IsPart d j v × (v.list ≡ []) × (v.weight ≡ 1)) (slice_index_or ps i e)
  pub unused : (i : ℕ) (e : DequePass) → i < length d.ranges
      → ((slice_index_or ps i e).ended ≡ false) × ((j : ℕ) → slice_index_or (slice_index_or ps i e).marked j false ≡ false)

-- who has each task of deque i
abbrev pub IsWhole : Deques → ℕ → View → Type 0
IsWhole d i v = (x : ℕ) → start_of (total_of d.ranges) (length d.ranges) i ≤ x → x < start_of (total_of d.ranges) (length d.ranges) (i + 1)
    → times x v.list ≡ 1

-- while the views come together again: those of deque q from the first w passes are back
pub record Joining (d : Deques) (q w : ℕ) (ps : List DequePass) : Type 0 where
  pub sound : IsSound d
  pub length_is : length ps ≡ length d.ranges
  pub each : (i : ℕ) (e : DequePass) → i < length d.ranges
      → Holds d i (cond (nat_lt i w) q (q + 1))
      (λ v. IsPart d i v × (i < q → (v.weight ≡ 1) × (1 ≤ marks v.about.end v.list))
      × (i ≡ q → (v.weight + cond (nat_lt q w) 1 0 ≡ w + 1) × (1 ≤ marks v.about.end v.list)) × (q < i → IsWhole d i v))
      (λ j v. IsPart d j v × (v.weight ≡ 1)) (slice_index_or ps i e)

-- the deques from q on are done
pub record Joined (d : Deques) (q : ℕ) (ps : List DequePass) : Type 0 where
  pub sound : IsSound d
  pub length_is : length ps ≡ length d.ranges
  pub each : (i : ℕ) (e : DequePass) → i < length d.ranges
      → Holds d i q
      (λ v. IsPart d i v × (i < q → (v.weight ≡ 1) × (1 ≤ marks v.about.end v.list)) × (q ≤ i → IsWhole d i v))
      (λ j v. IsPart d j v × (v.weight ≡ 1)) (slice_index_or ps i e)
