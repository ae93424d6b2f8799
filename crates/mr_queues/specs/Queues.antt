-- What is seen of queues, whichever kind they have.
use Rattle.std.specs.Prelude.{◌≡◌, ℕ, length}
use Rattle.mr_base.specs.Tasks.{total_of}
use Rattle.mr_capacity.specs.declared.kinds.QueueKind.{QueueKind}
use Rattle.mr_capacity.specs.declared.kinds.QueueKind.TheVariants as kind
use Rattle.mr_phase.specs.Blocks as block
use Rattle.mr_claims.specs.Passes as claim
use Rattle.mr_deques.specs.Passes as deque
use Rattle.mr_queues.specs.Rooms.{IsRoom}
use Rattle.mr_queues.specs.declared.any.AnyPass.{AnyPass}
use Rattle.mr_queues.specs.declared.any.AnyPass.TheVariants as pass
use Rattle.mr_queues.specs.declared.any.AnyQueues.{AnyQueues}
use Rattle.mr_queues.specs.declared.any.AnyQueues.TheVariants.{Blocks, Claims, Deques}

-- the kind that a job file names them by
abbrev pub kind_of : AnyQueues → QueueKind
kind_of (Blocks q) = kind.Blocks
kind_of (Claims q) = kind.Ranges
kind_of (Deques q) = kind.Deques

abbrev pub total : AnyQueues → ℕ
total (Blocks q) = q.tasks
total (Claims q) = total_of q.ranges
total (Deques q) = total_of q.ranges

abbrev pub count : AnyQueues → ℕ
count (Blocks q) = q.queues
count (Claims q) = length q.ranges
count (Deques q) = length q.ranges

-- the pass is of the same kind, and of these queues; the first has room for all
abbrev pub IsAnyOf : AnyQueues → AnyPass → Type 0
IsAnyOf (Blocks q) (pass.Blocks p room) = block.IsBlockOf q p × (p.number ≡ 0 → IsRoom q.queues room)
IsAnyOf (Blocks q) (pass.Claims p room) = ⊥
IsAnyOf (Blocks q) (pass.Deques p room) = ⊥
IsAnyOf (Claims q) (pass.Blocks p room) = ⊥
IsAnyOf (Claims q) (pass.Claims p room) = claim.IsPassOf q p × (claim.number_of p ≡ 0 → IsRoom (length q.ranges) room)
IsAnyOf (Claims q) (pass.Deques p room) = ⊥
IsAnyOf (Deques q) (pass.Blocks p room) = ⊥
IsAnyOf (Deques q) (pass.Claims p room) = ⊥
IsAnyOf (Deques q) (pass.Deques p room) = deque.IsPassOf q p × (deque.number_of p ≡ 0 → IsRoom (length q.ranges) room)
