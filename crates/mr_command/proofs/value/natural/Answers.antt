use Rattle.std.proofs.Common.{rules, ◌+◌, ◌-◌, ◌*◌, get_or, refl}
use Rattle.mr_command.proofs.Digits.{exceeds}
use Rattle.mr_command.proofs.value.natural.Goals as goal

pub returns-then-longer-most : goal.returns-then-longer-most
returns-then-longer-most c =
    exceeds c.args.most c.args.digits.now c.loop-byte.byte-index c.loop-byte.value
    (c.loop-byte.value * 10 + (get_or c.args.digits.now c.loop-byte.byte-index 0 - 48))
    (search rules) (search rules) refl (search rules) c.loop-byte.invariant.1
