use Rattle.std.proofs.Common.{flat_map, sym, ◌∙◌, arith, subst}
use Rattle.mr_base.specs.Tasks.{total_of}
use Rattle.mr_base.proofs.Bridge.{once_permuted}
use Rattle.mr_deques.specs.Passes.{given_to}
use Rattle.mr_deques.specs.Phases.{Joined}
use Rattle.mr_deques.proofs.Joins.{all_done}
use Rattle.mr_deques.proofs.gather.gather_all.Goals as goal

pub returns : goal.returns
returns c =
    let i = c.loop-q.invariant in
    let none = c.loop-q-test.false in
    once_permuted (total_of c.args.deques.now.ranges) (flat_map given_to c.args.all.now) (λ x.
    sym (i.2 x) ∙ all_done c.args.deques.now c.loop-q.all c.args.deques.now.few.0
    (subst (λ k. Joined c.args.deques.now k c.loop-q.all) (omega (arith, none)) i.0) x)
