use Rattle.std.proofs.Common.{◌≡◌, ◌∙◌, true, arith, sym, get_or}
use Rattle.std.proofs.lemmas.List.Sums.{prefix_len-drop_yes}
use Rattle.std.specs.Char.{is_ascii_digit}
use Rattle.mr_grid.proofs.Digits.{capped-more}
use Rattle.mr_grid.proofs.field.digits_one_by_one.Goals as goal

pub loop-at-preserved : goal.loop-at-preserved
loop-at-preserved c =
    let digit : is_ascii_digit (get_or c.args.line.now c.loop-at.at 0) ≡ true =
    sym c.is_ascii_digit.ensures.value ∙ c.if-not-is_ascii_digit.false in
    record {
      within = omega (arith, c.min-value.ensures);
      end = omega (arith, c.loop-at.invariant.end, prefix_len-drop_yes is_ascii_digit c.args.line.now c.loop-at.at 0 (omega arith) digit);
      value = capped-more c.args.line.now c.loop-at.value c.min-value.result c.loop-at.at (omega arith) digit c.min-value.ensures
          ∙ c.loop-at.invariant.value;
    }
