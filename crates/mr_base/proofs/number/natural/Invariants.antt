use Rattle.std.proofs.Common.{◌≡◌, drop}
use Rattle.mr_base.proofs.Digits.{number_after}
use Rattle.mr_base.proofs.number.natural.Given as goal

abbrev pub invariant-loop-byte : goal.invariant-loop-byte
invariant-loop-byte l = number_after l.value (drop l.byte-index l.digits) ≡ number_after 0 l.digits
