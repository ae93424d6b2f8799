use Rattle.mr_common.proofs.Steps.{cut_ok}
use Rattle.mr_common.proofs.step.cut_off.Goals as goal

pub split_seat-requires : goal.split_seat-requires
split_seat-requires c =
    let size = c.args.words.now.key in
    let me = c.args.seat.now in (
      c.requires.seat.0,
      c.requires.seat.2,
      λ s held at. cut_ok size.words size.passes me.id me.me.0 c.requires.weight c.requires.unused.0 c.requires.unused.1 s.words s.views
          held at,
    )
