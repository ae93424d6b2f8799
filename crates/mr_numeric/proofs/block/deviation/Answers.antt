use Rattle.std.proofs.Common.{◌≤◌, pos, nat_abs, get_or, subst, sym, arith}
use Rattle.std.proofs.lemmas.List.Elements.{All-get_or}
use Rattle.mr_defs.specs.Limits.{greatest_element}
use Rattle.mr_numeric.proofs.Products.{apart_small, apart_is}
use Rattle.mr_numeric.proofs.block.deviation.Goals as goal

pub returns-clause-deviation : goal.returns-clause-deviation
returns-clause-deviation c =
    apart_is (get_or c.args.row.now c.args.j (pos 0)) (get_or c.args.means.now c.args.j (pos 0))
    (All-get_or (λ z. nat_abs z ≤ greatest_element) c.args.row.now c.args.j (pos 0) c.requires.j c.requires.row)
    (All-get_or (λ z. nat_abs z ≤ greatest_element) c.args.means.now c.args.j (pos 0)
    (omega (arith, c.requires.j, c.requires.alike)) c.requires.means)

pub returns-clause-small : goal.returns-clause-small
returns-clause-small c =
    let x = get_or c.args.row.now c.args.j (pos 0) in
    let y = get_or c.args.means.now c.args.j (pos 0) in
    let left : nat_abs x ≤ greatest_element =
    All-get_or (λ z. nat_abs z ≤ greatest_element) c.args.row.now c.args.j (pos 0) c.requires.j c.requires.row in
    let right : nat_abs y ≤ greatest_element = All-get_or (λ z. nat_abs z ≤ greatest_element) c.args.means.now c.args.j (pos 0)
    (omega (arith, c.requires.j, c.requires.alike)) c.requires.means in
    subst (λ z. nat_abs z ≤ 4294967294) (sym (apart_is x y left right)) (apart_small x y left right)
