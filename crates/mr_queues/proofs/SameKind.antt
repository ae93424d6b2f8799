-- Of queues of a kind all passes are of that kind.
use Rattle.std.proofs.Common.{◌≡◌, ◌<◌, ℕ, List, Some, map, length, refl, subst}
use Rattle.std.specs.Prelude.{filter_map, slice_index_or}
use Rattle.mr_base.specs.Tasks.{AreAll, AreAllGiven, HaveEnded}
use Rattle.mr_base.specs.Spare.{Spared}
use Rattle.mr_phase.specs.declared.blocks.BlockPass.{BlockPass}
use Rattle.mr_phase.specs.declared.blocks.Blocks as block
use Rattle.mr_phase.specs.Blocks as block_pass
use Rattle.mr_claims.specs.declared.claims.ClaimPass.{ClaimPass}
use Rattle.mr_claims.specs.declared.claims.Claims as claim
use Rattle.mr_claims.specs.Passes as claim_pass
use Rattle.mr_deques.specs.declared.DequePass.{DequePass}
use Rattle.mr_deques.specs.declared.Deques as deque
use Rattle.mr_deques.specs.Passes as deque_pass
use Rattle.mr_queues.specs.declared.any.AnyPass.{AnyPass}
use Rattle.mr_queues.specs.declared.any.AnyPass.TheVariants as pass
use Rattle.mr_queues.specs.declared.any.AnyQueues.{AnyQueues}
use Rattle.mr_queues.specs.declared.any.AnyQueues.TheVariants as kept
use Rattle.mr_queues.specs.Passes.{number, given, ended, block_in, claim_in, deque_in}
use Rattle.mr_queues.specs.Queues.{IsAnyOf, count, total}
use Rattle.mr_queues.specs.Rooms.{HasRoom, IsRoom}
use Rattle.mr_queues.proofs.OneKind.{all_kept}
use Rattle.mr_queues.proofs.Rooming.{has_room, own_all, own_given, own_have_ended, own_of}

-- at each place there is one of the queues
each : (k : AnyQueues) (xs : List AnyPass) → AreAll (count k) (IsAnyOf k) number xs → (i : ℕ) (d : AnyPass) → i < length xs
    → IsAnyOf k (slice_index_or xs i d)
each k xs all i d h = (all.1 i d (subst (λ n. i < n) all.0 h)).0

module _ (q : block.Blocks) where
  blocks_kind : (a : AnyPass) → IsAnyOf (kept.Blocks q) a → (r : BlockPass × Spared BlockPass) × (a ≡ pass.Blocks r.0 r.1)
  blocks_kind (pass.Blocks p room) is = ((p, room), refl)
  blocks_kind (pass.Claims p room) is = absurd is
  blocks_kind (pass.Deques p room) is = absurd is

  blocks_first : (a : AnyPass) → IsAnyOf (kept.Blocks q) a → number a ≡ 0
      → (r : BlockPass × Spared BlockPass) × (block_in a ≡ Some r) × IsRoom q.queues r.1
  blocks_first (pass.Blocks p room) is z = ((p, room), refl, is.1 z)
  blocks_first (pass.Claims p room) is z = absurd is
  blocks_first (pass.Deques p room) is z = absurd is

  module _ (xs : List AnyPass) (all : AreAll (count (kept.Blocks q)) (IsAnyOf (kept.Blocks q)) number xs) where
    blocks_are : xs ≡ map (λ r. pass.Blocks r.0 r.1) (filter_map block_in xs)
    blocks_are =
        all_kept (λ r. pass.Blocks r.0 r.1) block_in (IsAnyOf (kept.Blocks q)) (λ r. refl) blocks_kind xs (each (kept.Blocks q) xs all)

    pub blocks_room : HasRoom block_in xs
    blocks_room = has_room block_in number (IsAnyOf (kept.Blocks q)) q.queues blocks_first q.some xs all

    pub blocks_all : AreAll q.queues (block_pass.IsBlockOf q) (λ p. p.number) (filter_map (own_of block_in) xs)
    blocks_all = own_all (λ r. pass.Blocks r.0 r.1) block_in xs blocks_are (λ p. p.number) number (λ r. refl) (block_pass.IsBlockOf q)
        (IsAnyOf (kept.Blocks q)) q.queues (λ r is. is.0) all

    pub blocks_ended : HaveEnded ended xs → HaveEnded (λ p. p.ended) (filter_map (own_of block_in) xs)
    blocks_ended = own_have_ended (λ r. pass.Blocks r.0 r.1) block_in xs blocks_are block_pass.given_of given (λ r. refl)
        (λ p. p.ended) ended (λ r. refl)

    pub blocks_given : AreAllGiven q.tasks block_pass.given_of (filter_map (own_of block_in) xs)
        → AreAllGiven (total (kept.Blocks q)) given xs
    blocks_given = own_given (λ r. pass.Blocks r.0 r.1) block_in xs blocks_are block_pass.given_of given (λ r. refl) q.tasks

module _ (q : claim.Claims) where
  claims_kind : (a : AnyPass) → IsAnyOf (kept.Claims q) a → (r : ClaimPass × Spared ClaimPass) × (a ≡ pass.Claims r.0 r.1)
  claims_kind (pass.Claims p room) is = ((p, room), refl)
  claims_kind (pass.Blocks p room) is = absurd is
  claims_kind (pass.Deques p room) is = absurd is

  claims_first : (a : AnyPass) → IsAnyOf (kept.Claims q) a → number a ≡ 0
      → (r : ClaimPass × Spared ClaimPass) × (claim_in a ≡ Some r) × IsRoom (length q.ranges) r.1
  claims_first (pass.Claims p room) is z = ((p, room), refl, is.1 z)
  claims_first (pass.Blocks p room) is z = absurd is
  claims_first (pass.Deques p room) is z = absurd is

  module _ (xs : List AnyPass) (all : AreAll (count (kept.Claims q)) (IsAnyOf (kept.Claims q)) number xs) where
    claims_are : xs ≡ map (λ r. pass.Claims r.0 r.1) (filter_map claim_in xs)
    claims_are =
        all_kept (λ r. pass.Claims r.0 r.1) claim_in (IsAnyOf (kept.Claims q)) (λ r. refl) claims_kind xs (each (kept.Claims q) xs all)

    pub claims_room : HasRoom claim_in xs
    claims_room = has_room claim_in number (IsAnyOf (kept.Claims q)) (length q.ranges) claims_first q.few.0 xs all

    pub claims_all : AreAll (length q.ranges) (claim_pass.IsPassOf q) claim_pass.number_of (filter_map (own_of claim_in) xs)
    claims_all = own_all (λ r. pass.Claims r.0 r.1) claim_in xs claims_are claim_pass.number_of number (λ r. refl) (claim_pass.IsPassOf q)
        (IsAnyOf (kept.Claims q)) (length q.ranges) (λ r is. is.0) all

    pub claims_ended : HaveEnded ended xs → HaveEnded claim_pass.has_ended (filter_map (own_of claim_in) xs)
    claims_ended = own_have_ended (λ r. pass.Claims r.0 r.1) claim_in xs claims_are claim_pass.given_to given
        (λ r. refl) claim_pass.has_ended ended (λ r. refl)

    pub claims_given : AreAllGiven (total (kept.Claims q)) claim_pass.given_to (filter_map (own_of claim_in) xs)
        → AreAllGiven (total (kept.Claims q)) given xs
    claims_given = own_given (λ r. pass.Claims r.0 r.1) claim_in xs claims_are claim_pass.given_to given (λ r. refl) (total (kept.Claims q))

module _ (q : deque.Deques) where
  deques_kind : (a : AnyPass) → IsAnyOf (kept.Deques q) a → (r : DequePass × Spared DequePass) × (a ≡ pass.Deques r.0 r.1)
  deques_kind (pass.Deques p room) is = ((p, room), refl)
  deques_kind (pass.Blocks p room) is = absurd is
  deques_kind (pass.Claims p room) is = absurd is

  deques_first : (a : AnyPass) → IsAnyOf (kept.Deques q) a → number a ≡ 0
      → (r : DequePass × Spared DequePass) × (deque_in a ≡ Some r) × IsRoom (length q.ranges) r.1
  deques_first (pass.Deques p room) is z = ((p, room), refl, is.1 z)
  deques_first (pass.Blocks p room) is z = absurd is
  deques_first (pass.Claims p room) is z = absurd is

  module _ (xs : List AnyPass) (all : AreAll (count (kept.Deques q)) (IsAnyOf (kept.Deques q)) number xs) where
    deques_are : xs ≡ map (λ r. pass.Deques r.0 r.1) (filter_map deque_in xs)
    deques_are =
        all_kept (λ r. pass.Deques r.0 r.1) deque_in (IsAnyOf (kept.Deques q)) (λ r. refl) deques_kind xs (each (kept.Deques q) xs all)

    pub deques_room : HasRoom deque_in xs
    deques_room = has_room deque_in number (IsAnyOf (kept.Deques q)) (length q.ranges) deques_first q.few.0 xs all

    pub deques_all : AreAll (length q.ranges) (deque_pass.IsPassOf q) deque_pass.number_of (filter_map (own_of deque_in) xs)
    deques_all = own_all (λ r. pass.Deques r.0 r.1) deque_in xs deques_are deque_pass.number_of number (λ r. refl) (deque_pass.IsPassOf q)
        (IsAnyOf (kept.Deques q)) (length q.ranges) (λ r is. is.0) all

    pub deques_ended : HaveEnded ended xs → HaveEnded deque_pass.has_ended (filter_map (own_of deque_in) xs)
    deques_ended = own_have_ended (λ r. pass.Deques r.0 r.1) deque_in xs deques_are deque_pass.given_to given
        (λ r. refl) deque_pass.has_ended ended (λ r. refl)

    pub deques_given : AreAllGiven (total (kept.Deques q)) deque_pass.given_to (filter_map (own_of deque_in) xs)
        → AreAllGiven (total (kept.Deques q)) given xs
    deques_given = own_given (λ r. pass.Deques r.0 r.1) deque_in xs deques_are deque_pass.given_to given (λ r. refl) (total (kept.Deques q))
