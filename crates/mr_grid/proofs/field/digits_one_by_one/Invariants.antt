use Rattle.std.proofs.Common.{◌≡◌, ◌≤◌, ◌+◌, drop}
use Rattle.std.specs.Char.{is_ascii_digit}
use Rattle.std.specs.List.{prefix_len}
use Rattle.mr_items.specs.Runs.{run_at}
use Rattle.mr_grid.proofs.Digits.{capped}
use Rattle.mr_grid.proofs.field.digits_one_by_one.Given as goal

abbrev pub invariant-loop-at : goal.invariant-loop-at
invariant-loop-at l = record {
  within : l.value ≤ 2147483648;
  end : l.at + prefix_len is_ascii_digit (drop l.at l.line) ≡ l.from + prefix_len is_ascii_digit (drop l.from l.line);
  value : capped l.value (run_at is_ascii_digit l.line l.at) ≡ capped 0 (run_at is_ascii_digit l.line l.from);
}
