use Rattle.std.proofs.Common.{◌≡◌, ◌+◌, ℕ, List, drop, ap, sym, refl, ◌∙◌, arith}
use Rattle.std.specs.Char.{is_ascii_digit}
use Rattle.std.specs.List.{prefix_len}
use Rattle.std.proofs.lemmas.List.{drop-drop}
use Rattle.mr_items.specs.Lines.{is_field_byte}
use Rattle.mr_grid.proofs.Numerals.{field_parts, natural_is, natural_large, natural_stray, natural_empty}
use Rattle.mr_grid.proofs.field.natural_at.Goals.{else-from-end-via-then-from-end+then-end-digits+else-digits-le-MOST}
use Rattle.mr_grid.proofs.field.natural_at.Goals.{else-from-end-via-then-from-end+else-end-digits, else-from-end-via-else-from-end}
use Rattle.mr_grid.proofs.field.natural_at.Goals as goal

-- where the field ends, by its digits and what follows them
ends : (line : List ℕ) (from digits end : ℕ) → digits ≡ from + prefix_len is_ascii_digit (drop from line)
    → end ≡ digits + prefix_len is_field_byte (drop digits line) → end ≡ from + prefix_len is_field_byte (drop from line)
ends line from digits end e f =
    let n = prefix_len is_ascii_digit (drop from line) in
    let rest : prefix_len is_field_byte (drop n (drop from line)) ≡ prefix_len is_field_byte (drop digits line) =
    ap (prefix_len is_field_byte) (drop-drop n from line ∙ ap (λ k. drop k line) (sym e)) in
    omega (arith, e, f, rest, field_parts (drop from line))

pub returns-then-digits-le-MOST-clause-end : goal.returns-then-digits-le-MOST-clause-end
returns-then-digits-le-MOST-clause-end c =
    ends c.args.line.now c.args.from c.digits_at-digits.result.end c.run_end-end.result c.digits_at-digits.ensures.end c.run_end-end.ensures

pub returns-then-digits-le-MOST-clause-number : goal.returns-then-digits-le-MOST-clause-number
returns-then-digits-le-MOST-clause-number c =
    let u = drop c.args.from c.args.line.now in
    let end = ends c.args.line.now c.args.from c.digits_at-digits.result.end c.run_end-end.result c.digits_at-digits.ensures.end
    c.run_end-end.ensures in
    natural_is u (prefix_len is_ascii_digit u) c.digits_at-digits.result.value refl c.digits_at-digits.ensures.value
    (omega (arith, end, c.digits_at-digits.ensures.end)) (omega (arith, end, c.digits_at-digits.ensures.end)) (omega arith)

pub returns-clause-end : goal.returns-clause-end
returns-clause-end c =
    ends c.args.line.now c.args.from c.digits_at-digits.result.end c.run_end-end.result c.digits_at-digits.ensures.end c.run_end-end.ensures

pub returns-clause-number : goal.returns-clause-number
returns-clause-number c =
    let u = drop c.args.from c.args.line.now in
    let n = prefix_len is_ascii_digit u in
    let value = c.digits_at-digits.result.value in
    let end = ends c.args.line.now c.args.from c.digits_at-digits.result.end c.run_end-end.result c.digits_at-digits.ensures.end
    c.run_end-end.ensures in
    elim c.else-from-end.branch [
      | else-from-end-via-then-from-end+then-end-digits+else-digits-le-MOST w ↦ natural_large u n value refl
          c.digits_at-digits.ensures.value (omega (arith, end, c.digits_at-digits.ensures.end, w.if-end-digits.true))
          (omega (arith, w.if-digits-le-MOST.false))
      | else-from-end-via-then-from-end+else-end-digits w ↦ natural_stray u n value refl c.digits_at-digits.ensures.value
          (omega (arith, end, c.digits_at-digits.ensures.end, w.if-end-digits.false, field_parts u))
      | else-from-end-via-else-from-end w ↦ natural_empty u n value refl c.digits_at-digits.ensures.value
          (omega (arith, end, w.if-from-end.false))
    ]
