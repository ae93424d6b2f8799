use Rattle.std.proofs.Common.{length, subst, sym}
use Rattle.mr_base.specs.Tasks.{AreAll, AreAllGiven, HaveEnded, total_of}
use Rattle.mr_phase.specs.Blocks as block
use Rattle.mr_claims.specs.Passes as claim
use Rattle.mr_deques.specs.Passes as deque
use Rattle.mr_queues.specs.Passes.{given, number}
use Rattle.mr_queues.specs.Queues.{IsAnyOf, count, total}
use Rattle.mr_queues.proofs.SameKind.{blocks_room, blocks_all, blocks_ended, blocks_given, claims_room, claims_all, claims_ended}
use Rattle.mr_queues.proofs.SameKind.{claims_given, deques_room, deques_all, deques_ended, deques_given}
use Rattle.mr_queues.proofs.queues.AnyQueuesTaskQueues.finish.Goals as goal

pub all_own-requires : goal.all_own-requires
all_own-requires c = blocks_room c.in-Blocks.queues c.args.passes.items
    (subst (λ k. AreAll (count k) (IsAnyOf k) number c.args.passes.items) c.in-Blocks.is c.requires.all)

pub finish-requires-clause-all : goal.finish-requires-clause-all
finish-requires-clause-all c =
    subst (AreAll c.in-Blocks.queues.queues (block.IsBlockOf c.in-Blocks.queues) (λ p. p.number)) (sym c.all_own.ensures)
    (blocks_all c.in-Blocks.queues c.args.passes.items
    (subst (λ k. AreAll (count k) (IsAnyOf k) number c.args.passes.items) c.in-Blocks.is c.requires.all))

pub finish-requires-clause-ended : goal.finish-requires-clause-ended
finish-requires-clause-ended c =
    subst (HaveEnded (λ p. p.ended)) (sym c.all_own.ensures)
    (blocks_ended c.in-Blocks.queues c.args.passes.items
    (subst (λ k. AreAll (count k) (IsAnyOf k) number c.args.passes.items) c.in-Blocks.is c.requires.all) c.requires.ended)

pub returns-in-Blocks : goal.returns-in-Blocks
returns-in-Blocks c =
    subst (λ k. AreAllGiven (total k) given c.args.passes.items) (sym c.in-Blocks.is)
    (blocks_given c.in-Blocks.queues c.args.passes.items
    (subst (λ k. AreAll (count k) (IsAnyOf k) number c.args.passes.items) c.in-Blocks.is c.requires.all)
    (subst (AreAllGiven c.in-Blocks.queues.tasks block.given_of) c.all_own.ensures c.finish.ensures))

pub all_own-requires-in-Claims : goal.all_own-requires-in-Claims
all_own-requires-in-Claims c = claims_room c.in-Claims.queues c.args.passes.items
    (subst (λ k. AreAll (count k) (IsAnyOf k) number c.args.passes.items) c.in-Claims.is c.requires.all)

pub finish-requires-in-Claims-clause-all : goal.finish-requires-in-Claims-clause-all
finish-requires-in-Claims-clause-all c =
    subst (AreAll (length c.in-Claims.queues.ranges) (claim.IsPassOf c.in-Claims.queues) claim.number_of) (sym c.all_own-in-Claims.ensures)
    (claims_all c.in-Claims.queues c.args.passes.items
    (subst (λ k. AreAll (count k) (IsAnyOf k) number c.args.passes.items) c.in-Claims.is c.requires.all))

pub finish-requires-in-Claims-clause-ended : goal.finish-requires-in-Claims-clause-ended
finish-requires-in-Claims-clause-ended c =
    subst (HaveEnded claim.has_ended) (sym c.all_own-in-Claims.ensures)
    (claims_ended c.in-Claims.queues c.args.passes.items
    (subst (λ k. AreAll (count k) (IsAnyOf k) number c.args.passes.items) c.in-Claims.is c.requires.all) c.requires.ended)

pub returns-in-Claims : goal.returns-in-Claims
returns-in-Claims c =
    subst (λ k. AreAllGiven (total k) given c.args.passes.items) (sym c.in-Claims.is)
    (claims_given c.in-Claims.queues c.args.passes.items
    (subst (λ k. AreAll (count k) (IsAnyOf k) number c.args.passes.items) c.in-Claims.is c.requires.all)
    (subst (AreAllGiven (total_of c.in-Claims.queues.ranges) claim.given_to) c.all_own-in-Claims.ensures c.finish-in-Claims.ensures))

pub all_own-requires-in-Deques : goal.all_own-requires-in-Deques
all_own-requires-in-Deques c = deques_room c.in-Deques.queues c.args.passes.items
    (subst (λ k. AreAll (count k) (IsAnyOf k) number c.args.passes.items) c.in-Deques.is c.requires.all)

pub finish-requires-in-Deques-clause-all : goal.finish-requires-in-Deques-clause-all
finish-requires-in-Deques-clause-all c =
    subst (AreAll (length c.in-Deques.queues.ranges) (deque.IsPassOf c.in-Deques.queues) deque.number_of) (sym c.all_own-in-Deques.ensures)
    (deques_all c.in-Deques.queues c.args.passes.items
    (subst (λ k. AreAll (count k) (IsAnyOf k) number c.args.passes.items) c.in-Deques.is c.requires.all))

pub finish-requires-in-Deques-clause-ended : goal.finish-requires-in-Deques-clause-ended
finish-requires-in-Deques-clause-ended c =
    subst (HaveEnded deque.has_ended) (sym c.all_own-in-Deques.ensures)
    (deques_ended c.in-Deques.queues c.args.passes.items
    (subst (λ k. AreAll (count k) (IsAnyOf k) number c.args.passes.items) c.in-Deques.is c.requires.all) c.requires.ended)

pub returns-in-Deques : goal.returns-in-Deques
returns-in-Deques c =
    subst (λ k. AreAllGiven (total k) given c.args.passes.items) (sym c.in-Deques.is)
    (deques_given c.in-Deques.queues c.args.passes.items
    (subst (λ k. AreAll (count k) (IsAnyOf k) number c.args.passes.items) c.in-Deques.is c.requires.all)
    (subst (AreAllGiven (total_of c.in-Deques.queues.ranges) deque.given_to) c.all_own-in-Deques.ensures c.finish-in-Deques.ensures))
