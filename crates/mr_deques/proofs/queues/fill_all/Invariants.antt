use Rattle.std.proofs.Common.{◌≡◌, ◌+◌, ◌<◌, ◌≤◌, ℕ, length, slice_index_or}
use Rattle.crossbeam_deque.specs.Handles.{worker_deque, stealer_deque, stealer_flavor}
use Rattle.mr_base.specs.Tasks.{total_of}
use Rattle.mr_deques.specs.declared.passes.DequePass.{DequePass}
use Rattle.mr_deques.proofs.Shares.{IsFresh}
use Rattle.mr_deques.proofs.queues.fill_all.Given as goal

abbrev pub invariant-loop-q : goal.invariant-loop-q
invariant-loop-q l = (l.queues ≡ length l.ranges) × (l.queues ≤ l.thieves.spare + l.q) × (l.queues ≤ l.passes.spare + l.q)
    × (length l.thieves.items ≡ l.q) × (length l.passes.items ≡ l.q)
    × ((i : ℕ) (t : _) → i < l.q → stealer_flavor (slice_index_or l.thieves.items i t) ≡ 0)
    × ((i : ℕ) (e : DequePass) (t : _) → i < l.q
    → IsFresh (total_of l.ranges) (length l.ranges) i (slice_index_or l.passes.items i e)
    × (worker_deque (slice_index_or l.passes.items i e).own ≡ stealer_deque (slice_index_or l.thieves.items i t)))
