use Rattle.std.proofs.Common.{refl}
use Rattle.atomic_table.specs.Table.{keeps}
use Rattle.mr_common.proofs.Steps.{exchange_ok}
use Rattle.mr_common.proofs.step.exchange.Goals as goal

pub compare_exchange-requires : goal.compare_exchange-requires
compare_exchange-requires c =
    let size = c.args.words.now.key in
    let me = c.args.seat.now in (
      c.requires.seat.0,
      c.requires.key.0,
      λ s held homes at fits.
          let r = exchange_ok size.words size.passes c.args.key c.args.value me.id me.me.0 c.requires.key.1 c.requires.value
          c.requires.seat.2 s.words s.views held at in
          (r.0, keeps, tt, r.1, (r.2, refl)),
    )
