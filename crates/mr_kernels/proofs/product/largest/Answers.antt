use Rattle.std.proofs.Common.{◌≡◌, ◌≤◌, pos, nat_abs, take, get_or, arith, rules, ap, sym, w32}
use Rattle.std.specs.Int.RustNames.{FitsSigned}
use Rattle.std.proofs.lemmas.Int.{to_z-of_z}
use Rattle.std.proofs.lemmas.List.{take_all}
use Rattle.std.proofs.lemmas.List.Elements.{All-more, All-weaker, All-same, All-get_or}
use Rattle.mr_defs.specs.Limits.{greatest_element}
use Rattle.mr_kernels.proofs.product.largest.Goals.{then-size-most, else-size-most}
use Rattle.mr_kernels.proofs.product.largest.Goals as goal

pub loop-number-preserved : goal.loop-number-preserved
loop-number-preserved c =
    let numbers = c.args.numbers.now in
    let i = c.loop-number.number-index in
    let number = get_or numbers i (pos 0) in
    let fits : FitsSigned w32 number = search rules in
    let size : c.unsigned_abs-size.result ≡ nat_abs number =
    omega (arith, c.unsigned_abs-size.ensures.value, ap nat_abs (to_z-of_z w32 number fits)) in
    let most : nat_abs number ≤ greatest_element =
    All-get_or (λ z. nat_abs z ≤ greatest_element) numbers i (pos 0) (omega arith) c.requires in
    elim c.if-size-most.branch [
      | then-size-most w ↦ record {
        most = omega (arith, size, most, w.most-is);
        bound = All-more (λ z. nat_abs z ≤ c.if-size-most.most) numbers i (pos 0) (omega arith)
            (All-weaker (λ z. nat_abs z ≤ c.loop-number.most) (λ z. nat_abs z ≤ c.if-size-most.most)
            (λ z h. omega (arith, h, w.most-is, w.if-size-most.true)) (take i numbers) c.loop-number.invariant.bound)
            (omega (arith, size, w.most-is));
      }
      | else-size-most w ↦ record {
        most = omega (arith, w.most-is);
        bound = All-more (λ z. nat_abs z ≤ c.if-size-most.most) numbers i (pos 0) (omega arith)
            (All-weaker (λ z. nat_abs z ≤ c.loop-number.most) (λ z. nat_abs z ≤ c.if-size-most.most) (λ z h. omega (arith, h, w.most-is))
            (take i numbers) c.loop-number.invariant.bound)
            (omega (arith, size, w.most-is, w.if-size-most.false));
      }
    ]

pub returns-clause-bound : goal.returns-clause-bound
returns-clause-bound c = All-same (λ z. nat_abs z ≤ c.loop-number.most) c.args.numbers.now
    (take c.loop-number.number-index c.args.numbers.now)
    (sym (take_all c.loop-number.number-index c.args.numbers.now (omega arith))) c.loop-number.invariant.bound
