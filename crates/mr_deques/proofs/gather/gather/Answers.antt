use Rattle.std.proofs.Common.{refl, ◌∙◌, arith}
use Rattle.mr_deques.specs.declared.passes.DequePass.{DequePass}
use Rattle.mr_deques.proofs.Joins.{join_start, sealed_joined, sealed_given}
use Rattle.mr_deques.proofs.gather.gather.Goals as goal

pub loop-w-init : goal.loop-w-init
loop-w-init c = (join_start c.args.deques.now c.args.q c.args.all.now c.requires.joined, λ x. refl)

pub returns-clause-joined : goal.returns-clause-joined
returns-clause-joined c =
    let o : DequePass = record c.index-all-q.result { own = c.last.new.owner } in
    sealed_joined c.args.deques.now c.args.q c.loop-w.w c.loop-w.all c.loop-w.invariant.0
    (let a = c.loop-w-test.false in let b = c.loop-w.auto.w-end in omega (arith, a, b)) c.requires.place c.index-all-q.result o
    c.last.ensures.same c.last.result c.last.ensures.all

pub returns-clause-given : goal.returns-clause-given
returns-clause-given c x =
    let o : DequePass = record c.index-all-q.result { own = c.last.new.owner } in
    sealed_given c.args.deques.now c.args.q c.loop-w.w c.loop-w.all c.loop-w.invariant.0
    (let a = c.loop-w-test.false in let b = c.loop-w.auto.w-end in omega (arith, a, b)) c.requires.place c.index-all-q.result o
    c.last.ensures.same c.last.result c.last.ensures.all x ∙ c.loop-w.invariant.1 x
