use Rattle.std.proofs.Common.{sym, ap, arith}
use Rattle.mr_deques.specs.declared.view.About.{About}
use Rattle.mr_deques.proofs.Steps.{begins_at, puts_at}
use Rattle.mr_deques.proofs.deque.filled.Goals as goal

pub push_as-requires-clause-pushes : goal.push_as-requires-clause-pushes
push_as-requires-clause-pushes g c =
    let is = c.requires.about in
    begins_at _ _ g.J.Numbered.about c.args.start c.in_ok-owner.ensures.4 (sym (ap (λ (u : About). u.start) is))
    (let s = ap (λ (u : About). u.start) is in let e = ap (λ (u : About). u.end) is in let r = c.requires.range.0 in omega (arith, s, e, r))
    (let p = ap (λ (u : About). u.passes) is in let r = c.requires.range.2 in omega (arith, p, r))

pub push_as-requires-in-loop-number-clause-pushes : goal.push_as-requires-in-loop-number-clause-pushes
push_as-requires-in-loop-number-clause-pushes g c = puts_at _ _ c.loop-number.number c.args.start c.args.end c.args.passes
    c.loop-number.invariant.1 c.requires.range.2 c.loop-number-test.true
