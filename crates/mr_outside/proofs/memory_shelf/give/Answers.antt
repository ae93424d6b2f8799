use Rattle.std.proofs.Common.{◌≡◌, ◌≤◌, ◌+◌, ◌∙◌, arith, ap, rules, length, sym, take, drop}
use Rattle.mr_outside.specs.Entry.{content_of}
use Rattle.mr_outside.proofs.Entries.{front_filled, length-repeated, repeated_part}
use Rattle.mr_outside.proofs.memory_shelf.give.Goals as goal

pub overflow_sub-count : goal.overflow_sub-count
overflow_sub-count c =
    let size : length (content_of c.args.body.now) ≡ c.in-Repeated.count =
    ap (λ b. length (content_of b)) c.in-Repeated.is ∙ length-repeated _ _ in
    omega (arith, size, c.requires.inside)

pub returns-in-Repeated-clause-count : goal.returns-in-Repeated-clause-count
returns-in-Repeated-clause-count c =
    let size : length (content_of c.args.body.now) ≡ c.in-Repeated.count =
    ap (λ b. length (content_of b)) c.in-Repeated.is ∙ length-repeated _ _ in
    rw size (search rules)

pub returns-in-Repeated-clause-bytes : goal.returns-in-Repeated-clause-bytes
returns-in-Repeated-clause-bytes c =
    let size : length (content_of c.args.body.now) ≡ c.in-Repeated.count =
    ap (λ b. length (content_of b)) c.in-Repeated.is ∙ length-repeated _ _ in
    let within : c.args.place + c.min-n-in-Repeated.result ≤ c.in-Repeated.count = omega (arith, size, c.requires.inside) in
    let filled = front_filled c.fill.new.buf _ c.args.buf.now c.in-Repeated.byte c.min-n-in-Repeated.result (omega arith) c.fill.ensures in
    filled ∙ sym (ap (λ b. take c.min-n-in-Repeated.result (drop c.args.place (content_of b))) c.in-Repeated.is
    ∙ repeated_part c.in-Repeated.byte c.in-Repeated.count c.args.place _ within)
