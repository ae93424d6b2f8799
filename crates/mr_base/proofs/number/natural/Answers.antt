use Rattle.std.proofs.Common.{rules, ◌+◌, ◌-◌, ◌*◌, get_or, refl}
use Rattle.mr_base.proofs.Digits.{exceeds}
use Rattle.mr_base.proofs.number.natural.Goals as goal

pub returns-then-value-gt922337203685477580 : goal.returns-then-value-gt922337203685477580
returns-then-value-gt922337203685477580 c =
    exceeds c.args.digits.now c.loop-byte.byte-index c.loop-byte.value
    (c.loop-byte.value * 10 + (get_or c.args.digits.now c.loop-byte.byte-index 0 - 48))
    (search rules) (search rules) refl (search rules) c.loop-byte.invariant
