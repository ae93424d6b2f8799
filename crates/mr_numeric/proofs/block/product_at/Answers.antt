use Rattle.std.proofs.Common.{◌≤◌, pos, nat_abs, get_or, subst, sym}
use Rattle.std.proofs.lemmas.List.Elements.{All-get_or}
use Rattle.mr_defs.specs.Folded.{limit}
use Rattle.mr_numeric.proofs.Blocks.{mild_fits, mild_is, mild_product}
use Rattle.mr_numeric.proofs.block.product_at.Goals as goal

pub overflow_mul-result : goal.overflow_mul-result
overflow_mul-result c =
    mild_fits (get_or c.args.left.now c.args.at (pos 0)) (get_or c.args.right.now c.args.at (pos 0))
    (All-get_or (λ z. nat_abs z ≤ 2147483647) c.args.left.now c.args.at (pos 0) c.requires.left_in c.requires.left)
    (All-get_or (λ z. nat_abs z ≤ 2147483647) c.args.right.now c.args.at (pos 0) c.requires.right_in c.requires.right)

pub returns-clause-product : goal.returns-clause-product
returns-clause-product c =
    mild_is (get_or c.args.left.now c.args.at (pos 0)) (get_or c.args.right.now c.args.at (pos 0))
    (All-get_or (λ z. nat_abs z ≤ 2147483647) c.args.left.now c.args.at (pos 0) c.requires.left_in c.requires.left)
    (All-get_or (λ z. nat_abs z ≤ 2147483647) c.args.right.now c.args.at (pos 0) c.requires.right_in c.requires.right)

pub returns-clause-small : goal.returns-clause-small
returns-clause-small c =
    let x = get_or c.args.left.now c.args.at (pos 0) in
    let y = get_or c.args.right.now c.args.at (pos 0) in
    let left : nat_abs x ≤ 2147483647 =
    All-get_or (λ z. nat_abs z ≤ 2147483647) c.args.left.now c.args.at (pos 0) c.requires.left_in c.requires.left in
    let right : nat_abs y ≤ 2147483647 =
    All-get_or (λ z. nat_abs z ≤ 2147483647) c.args.right.now c.args.at (pos 0) c.requires.right_in c.requires.right in
    subst (λ z. nat_abs z ≤ limit) (sym (mild_is x y left right)) (mild_product x y left right)
