use Rattle.std.proofs.Common.{◌≡◌, ap, sym, ◌∙◌, arith}
use Rattle.std.specs.Char.{is_ascii_digit}
use Rattle.std.specs.Str.Parse.{digits_value}
use Rattle.mr_items.specs.Runs.{run_at}
use Rattle.mr_grid.proofs.Goes.{same_digits, same_run}
use Rattle.mr_grid.proofs.field.digits_at.Goals as goal

pub returns-then-count-le-TOGETHER-clause-end : goal.returns-then-count-le-TOGETHER-clause-end
returns-then-count-le-TOGETHER-clause-end c =
    omega (
      arith,
      c.digits_in_front-count.ensures c.if-count-le-TOGETHER.true,
      same_digits c.args.line.now c.args.rest.now c.requires.rest c.args.from c.requires.inside,
    )

pub returns-then-count-le-TOGETHER-clause-value : goal.returns-then-count-le-TOGETHER-clause-value
returns-then-count-le-TOGETHER-clause-value c =
    let value : digits_value 10 (run_at is_ascii_digit c.args.line.now c.args.from) ≡ c.digits_together.result =
    ap (digits_value 10) (same_run c.args.line.now c.args.rest.now c.requires.rest c.args.from c.requires.inside)
    ∙ sym c.digits_together.ensures.value in
    omega (arith, value, c.digits_together.ensures.small)
