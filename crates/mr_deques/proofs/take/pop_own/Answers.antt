use Rattle.std.proofs.Common.{length, sym, refl, arith, true, false}
use Rattle.std.proofs.lemmas.List.{get_or-set_same}
use Rattle.mr_base.proofs.Bridge.{permuted}
use Rattle.mr_deques.specs.declared.passes.DequePass.{DequePass}
use Rattle.mr_deques.proofs.Passing.{own_task, own_given, own_mark, own_same, below_total}
use Rattle.mr_deques.proofs.take.pop_own.Goals as goal

pub returns-then-x-end-clause-same : goal.returns-then-x-end-clause-same
returns-then-x-end-clause-same c =
    let r = c.requires.pass in
    let o : DequePass = record c.args.pass.now { own = c.pop.new.owner } in
    let end = c.range-end.ensures.even.1 in
    let lt = c.if-x-end.true in (
      own_task c.args.deques.now c.args.pass.now r.0 r.1 o c.in-Some.x c.requires.unmarked c.pop.ensures.same c.in-Some.ensures.took
          (omega (arith, end, lt)),
      refl,
      r.1,
    )

pub returns-then-x-end-clause-some : goal.returns-then-x-end-clause-some
returns-then-x-end-clause-some c =
    let r = c.requires.pass in
    let o : DequePass = record c.args.pass.now { own = c.pop.new.owner } in
    let end = c.range-end.ensures.even.1 in
    let lt = c.if-x-end.true in (
      below_total c.args.deques.now c.args.pass.now.number c.in-Some.x r.0.number (omega (arith, end, lt)),
      permuted _ _ (λ y. sym (own_given c.args.deques.now c.args.pass.now r.0 r.1 o c.in-Some.x c.requires.unmarked c.pop.ensures.same
          c.in-Some.ensures.took y (omega (arith, end, lt)))),
    )

pub returns-clause-same : goal.returns-clause-same
returns-clause-same c =
    let r = c.requires.pass in
    let o : DequePass = record c.args.pass.now { own = c.pop.new.owner } in
    let end = c.range-end.ensures.even.1 in
    let no = c.if-x-end.false in (
      own_mark c.args.deques.now c.args.pass.now r.0 r.1 o c.in-Some.x c.requires.unmarked c.pop.ensures.same c.in-Some.ensures.took
          (omega (arith, end, no)) c.args.deques.now.few.1,
      refl,
      r.1,
    )

pub returns-clause-none : goal.returns-clause-none
returns-clause-none c =
    let r = c.requires.pass in
    let o : DequePass = record c.args.pass.now { own = c.pop.new.owner } in
    let end = c.range-end.ensures.even.1 in
    let no = c.if-x-end.false in
    let w = r.0.holds.wide in
    let l = r.0.number in
    let s = c.args.deques.now.few in (
      own_same c.args.deques.now c.args.pass.now r.0 r.1 o c.in-Some.x c.requires.unmarked c.pop.ensures.same c.in-Some.ensures.took
          (omega (arith, end, no)),
      get_or-set_same c.args.pass.now.marked c.args.pass.now.number true false (omega (arith, w, l, s)),
    )
