use Rattle.std.proofs.Common.{◌≡◌, ◌≤◌, drop}
use Rattle.mr_command.proofs.Digits.{number_after}
use Rattle.mr_command.proofs.value.natural.Given as goal

abbrev pub invariant-loop-byte : goal.invariant-loop-byte
invariant-loop-byte l = (l.value ≤ l.most) × (number_after l.most l.value (drop l.byte-index l.digits) ≡ number_after l.most 0 l.digits)
