use Rattle.std.proofs.Common.{sym, subst, List, length}
use Rattle.mr_deques.specs.declared.passes.DequePass.{DequePass}
use Rattle.mr_deques.specs.Phases.{Joined}
use Rattle.mr_deques.proofs.Joins.{all_joined}
use Rattle.mr_deques.proofs.queues.DequesTaskQueues.finish.Goals as goal

pub gather_all-requires : goal.gather_all-requires
gather_all-requires c = record {
  joined = subst (λ (l : List DequePass). Joined c.args.self (length c.args.self.ranges) l)
      (sym c.as_mut_slice.ensures.value) (all_joined c.args.self c.args.passes.items c.args.self.few.0 c.requires.all c.requires.ended);
}
