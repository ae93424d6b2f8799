use Rattle.std.proofs.Common.{◌∙◌, ap, arith}
use Rattle.mr_common.specs.declared.view.View.{View}
use Rattle.mr_common.proofs.Rows.{apart_more}
use Rattle.mr_common.proofs.common.CommonArray.emit.Goals as goal

pub returns-then-exchange-clause-same : goal.returns-then-exchange-clause-same
returns-then-exchange-clause-same c =
    let e = c.exchange.ensures in
    let w = e.won c.if-exchange.true in
    let r = c.requires.pass in
    let below = c.if-key-self.false in (
      (
        e.same.0 ∙ r.0,
        e.same.1,
        ap (λ (u : View). u.weight) w,
        apart_more c.args.self.now.size c.args.key _ c.args.pass.now.seat.me.0 c.exchange.new.seat.me.0 r.3 (omega (arith, below)) w e.once,
      ),
      e.same.2,
    )
