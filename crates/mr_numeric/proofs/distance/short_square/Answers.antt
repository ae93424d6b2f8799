use Rattle.std.proofs.Common.{◌≡◌, ◌≤◌, ◌-ℤ◌, pos, nat_abs, get_or, ap, ◌∙◌, arith}
use Rattle.std.proofs.lemmas.List.Elements.{All-get_or}
use Rattle.std.proofs.lemmas.Nat.{mul-le}
use Rattle.mr_numeric.proofs.Distances.{apart_is, apart_small}
use Rattle.mr_numeric.proofs.distance.short_square.Goals as goal

pub returns-clause-small : goal.returns-clause-small
returns-clause-small c =
    let x = get_or c.args.point.now c.args.at (pos 0) in
    let y = get_or c.args.mean.now c.args.at (pos 0) in
    let left : nat_abs x ≤ 67108863 =
    All-get_or (λ z. nat_abs z ≤ 67108863) c.args.point.now c.args.at (pos 0) c.requires.at c.requires.point in
    let right : nat_abs y ≤ 67108863 =
    All-get_or (λ z. nat_abs z ≤ 67108863) c.args.mean.now c.args.at (pos 0)
    (omega (arith, c.requires.at, c.requires.alike)) c.requires.mean in
    let apart = c.unsigned_abs-apart.result in
    let is : apart ≡ nat_abs (x -ℤ y) = c.unsigned_abs-apart.ensures.value ∙ ap nat_abs (apart_is x y left right) in
    let few : apart ≤ 134217726 = omega (arith, is, apart_small x y left right) in
    omega (arith, mul-le apart apart 134217726 134217726 few few)
