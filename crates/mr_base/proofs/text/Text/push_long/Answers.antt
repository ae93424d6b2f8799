use Rattle.mr_base.proofs.Spaced.{seven_digits, eight_digits}
use Rattle.mr_base.proofs.text.Text.push_long.Goals as goal

pub returns-then-first-lt10 : goal.returns-then-first-lt10
returns-then-first-lt10 c =
    rw (
      seven_digits c.args.n c.requires.low c.requires.high c.if-first-lt10.true,
      ← c.ones.ensures,
      ← c.tens-a.ensures,
      ← c.ones-b.ensures,
      ← c.tens-c.ensures,
      ← c.ones-d.ensures,
      ← c.tens-e.ensures,
      ← c.ones-f.ensures,
    ) c.push.ensures.ok

pub returns : goal.returns
returns c =
    rw (
      eight_digits c.args.n c.requires.low c.requires.high c.if-first-lt10.false,
      ← c.tens.ensures,
      ← c.ones-2.ensures,
      ← c.tens-a.ensures,
      ← c.ones-b.ensures,
      ← c.tens-c.ensures,
      ← c.ones-d.ensures,
      ← c.tens-e.ensures,
      ← c.ones-f.ensures,
    ) c.push-2.ensures.ok
