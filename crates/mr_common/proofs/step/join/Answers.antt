use Rattle.mr_common.proofs.Steps.{join_ok}
use Rattle.mr_common.proofs.step.join.Goals as goal

pub join_seat-requires : goal.join_seat-requires
join_seat-requires c =
    let size = c.args.words.now.key in
    let me = c.args.seat.now in (
      c.requires.seat.0,
      c.requires.other.0,
      c.requires.other.1,
      c.requires.seat.2,
      λ s held at ne at'. join_ok size.words size.passes me.id me.me.0 c.args.other.id c.args.other.me.0 c.requires.seat.3 s.words s.views
          held at ne at',
    )
