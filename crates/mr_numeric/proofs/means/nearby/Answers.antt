use Rattle.std.proofs.Common.{◌≡◌, ◌≤◌, ◌++◌, ◌∷◌, nat_abs, [], pos, get_or, ap, ◌∙◌, arith, sym, w32, to_z, of_z}
use Rattle.std.proofs.lemmas.List.{take_all, take_more}
use Rattle.std.proofs.lemmas.List.Elements.{All-get_or}
use Rattle.mr_defs.specs.Limits.{greatest_element}
use Rattle.mr_numeric.proofs.Products.{kept_wide}
use Rattle.mr_numeric.proofs.Quotients.{narrow_is}
use Rattle.mr_numeric.proofs.means.nearby.Goals as goal

pub loop-coordinate-preserved : goal.loop-coordinate-preserved
loop-coordinate-preserved c = λ small.
    let xs = c.args.coordinates.now in
    let i = c.loop-coordinate.coordinate-index in
    let z = get_or xs i (pos 0) in
    let is : nat_abs z ≤ greatest_element = All-get_or (λ z. nat_abs z ≤ greatest_element) xs i (pos 0) c.loop-coordinate-test.true small in
    let same : c.narrowed.result ≡ z =
    let kept = kept_wide z (omega (arith, is)) in c.narrowed.ensures (omega (arith, ap nat_abs kept, is)) ∙ kept in
    c.in_ok-push.ensures.items
    ∙ ap (λ y. c.loop-coordinate.near.items ++ to_z w32 (of_z w32 y) ∷ []) same
    ∙ ap (λ y. c.loop-coordinate.near.items ++ y ∷ []) (narrow_is z is)
    ∙ ap (λ l. l ++ z ∷ []) (c.loop-coordinate.invariant small) ∙ sym (take_more xs i (pos 0) c.loop-coordinate-test.true)

pub returns : goal.returns
returns c = λ small. c.loop-coordinate.invariant small
    ∙ take_all c.loop-coordinate.coordinate-index c.args.coordinates.now c.loop-coordinate-test.false
