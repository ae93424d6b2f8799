use Rattle.std.proofs.Common.{◌≡◌, ◌+◌, ◌-◌, ◌*◌, ◌<◌, ◌≤◌, ℕ, List, take, drop, get_or, ap, ap₂, sym, refl, ◌∙◌, arith}
use Rattle.std.specs.Char.{is_ascii_digit}
use Rattle.std.specs.List.{prefix_len}
use Rattle.std.specs.Str.Parse.{digits_value}
use Rattle.std.proofs.lemmas.List.{get_or-drop}
use Rattle.mr_grid.proofs.Weights.{begun, ended, small, so_far, weighed, weights}
use Rattle.mr_grid.proofs.field.digits_together.Goals as goal

-- what one byte more comes to
next : (bytes : List ℕ) (at count i value digit : ℕ) → count ≤ 8 → count ≡ prefix_len is_ascii_digit (drop at bytes) → i < 8
    → value ≡ so_far (drop at bytes) count i → digit ≡ get_or bytes (at + i) 0 - 48
    → so_far (drop at bytes) count (i + 1) ≡ value + digit * get_or weights (8 - count + i) 0
next bytes at count i value digit few counted below so_far_is is =
    weighed (drop at bytes) count few counted i (get_or weights (8 - count + i) 0) below refl
    ∙ ap₂ (λ v d. v + d * get_or weights (8 - count + i) 0) (sym so_far_is) (ap (λ b. b - 48) (get_or-drop at bytes i 0) ∙ sym is)

pub loop-i-init : goal.loop-i-init
loop-i-init c = begun (drop c.args.at c.args.bytes.now) c.args.count c.requires.few c.requires.count

pub overflow_mul-value : goal.overflow_mul-value
overflow_mul-value c =
    omega (
      arith,
      small (drop c.args.at c.args.bytes.now) c.args.count c.requires.few c.requires.count (c.loop-i.i + 1),
      next c.args.bytes.now c.args.at c.args.count c.loop-i.i c.loop-i.value c.saturating_sub-digit.result c.requires.few c.requires.count
          c.loop-i-test.true c.loop-i.invariant c.saturating_sub-digit.ensures,
    )

pub overflow_add-value-in-loop-i : goal.overflow_add-value-in-loop-i
overflow_add-value-in-loop-i c =
    omega (
      arith,
      small (drop c.args.at c.args.bytes.now) c.args.count c.requires.few c.requires.count (c.loop-i.i + 1),
      next c.args.bytes.now c.args.at c.args.count c.loop-i.i c.loop-i.value c.saturating_sub-digit.result c.requires.few c.requires.count
          c.loop-i-test.true c.loop-i.invariant c.saturating_sub-digit.ensures,
    )

pub loop-i-preserved : goal.loop-i-preserved
loop-i-preserved c =
    sym (next c.args.bytes.now c.args.at c.args.count c.loop-i.i c.loop-i.value c.saturating_sub-digit.result c.requires.few
    c.requires.count c.loop-i-test.true c.loop-i.invariant c.saturating_sub-digit.ensures)

pub returns-clause-value : goal.returns-clause-value
returns-clause-value c =
    let all : c.loop-i.i ≡ 8 = omega (arith, c.loop-i.auto.i-end, c.loop-i-test.false) in
    c.loop-i.invariant ∙ ap (so_far (drop c.args.at c.args.bytes.now) c.args.count) all
    ∙ ended (drop c.args.at c.args.bytes.now) c.args.count c.requires.few c.requires.count
    ∙ ap (λ n. digits_value 10 (take n (drop c.args.at c.args.bytes.now))) c.requires.count

pub returns-clause-small : goal.returns-clause-small
returns-clause-small c =
    omega (arith, small (drop c.args.at c.args.bytes.now) c.args.count c.requires.few c.requires.count c.loop-i.i, c.loop-i.invariant)
