-- What is seen of a pass, whichever kind it has.
use Rattle.std.specs.Prelude.{ℕ, Bool, List, Option, Some, None}
use Rattle.mr_base.specs.Spare.{Spared}
use Rattle.mr_phase.specs.declared.blocks.BlockPass.{BlockPass}
use Rattle.mr_phase.specs.Blocks as block
use Rattle.mr_claims.specs.declared.claims.ClaimPass.{ClaimPass}
use Rattle.mr_claims.specs.Passes as claim
use Rattle.mr_deques.specs.declared.DequePass.{DequePass}
use Rattle.mr_deques.specs.Passes as deque
use Rattle.mr_queues.specs.declared.any.AnyPass.{AnyPass}
use Rattle.mr_queues.specs.declared.any.AnyPass.TheVariants.{Blocks, Claims, Deques}

abbrev pub number : AnyPass → ℕ
number (Blocks p room) = p.number
number (Claims p room) = claim.number_of p
number (Deques p room) = deque.number_of p

abbrev pub given : AnyPass → List ℕ
given (Blocks p room) = block.given_of p
given (Claims p room) = claim.given_to p
given (Deques p room) = deque.given_to p

abbrev pub ended : AnyPass → Bool
ended (Blocks p room) = p.ended
ended (Claims p room) = claim.has_ended p
ended (Deques p room) = deque.has_ended p

-- the pass of each kind, where it is of that kind, and its room
abbrev pub block_in : AnyPass → Option (BlockPass × Spared BlockPass)
block_in (Blocks p room) = Some (p, room)
block_in (Claims p room) = None
block_in (Deques p room) = None

abbrev pub claim_in : AnyPass → Option (ClaimPass × Spared ClaimPass)
claim_in (Blocks p room) = None
claim_in (Claims p room) = Some (p, room)
claim_in (Deques p room) = None

abbrev pub deque_in : AnyPass → Option (DequePass × Spared DequePass)
deque_in (Blocks p room) = None
deque_in (Claims p room) = None
deque_in (Deques p room) = Some (p, room)
