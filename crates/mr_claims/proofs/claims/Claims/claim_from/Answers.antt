use Rattle.std.proofs.Common.{rules, refl, arith}
use Rattle.mr_claims.proofs.Passing.{was_given, saw_end}
use Rattle.mr_claims.proofs.claims.Claims.claim_from.Goals as goal

pub returns-then-next-from-clause-some : goal.returns-then-next-from-clause-some
returns-then-next-from-clause-some c =
    let below = c.if-next-from.true in
    let end = c.from.ensures in
    let is = c.range-end.ensures.even.1 in
    was_given c.args.self.now c.args.pass.now c.args.queue c.claim-next.result c.claim-next.new.seat c.requires.pass.0 c.requires.queue.0
    c.claim-next.ensures.claim (omega (arith, below, end, is))

pub returns-clause-same : goal.returns-clause-same
returns-clause-same c =
    let past = c.if-next-from.false in
    let end = c.from.ensures in
    let is = c.range-end.ensures.even.1 in (
      saw_end c.args.self.now c.args.pass.now c.args.queue c.claim-next.result c.claim-next.new.seat c.requires.pass.0 c.requires.queue.0
          c.requires.pass.1 c.requires.queue.1
          c.claim-next.ensures.same.0 c.claim-next.ensures.same.1 c.claim-next.ensures.claim
          (omega (arith, past, end, is)) c.args.self.now.few.1,
      refl,
      c.requires.pass.1,
    )
