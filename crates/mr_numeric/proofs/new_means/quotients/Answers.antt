use Rattle.std.proofs.Common.{◌≡◌, ◌<◌, ◌+◌, ◌-◌, ◌++◌, ◌∷◌, pos, [], length, get_or, map, take, drop, ap, ap₂, sym, ◌∙◌, arith, rules}
use Rattle.std.proofs.Common.{to_z, of_z}
use Rattle.std.specs.Int.{int_div_euclid, w128}
use Rattle.std.proofs.lemmas.Int.{to_z-of_z}
use Rattle.std.proofs.lemmas.List.{get_or-drop, length-drop, map_more, take_all}
use Rattle.std.proofs.lemmas.Option.{get_or_from_slice_get}
use Rattle.mr_items.specs.KMeans.{floor_div}
use Rattle.mr_numeric.proofs.new_means.quotients.Goals as goal

pub loop-i-preserved : goal.loop-i-preserved
loop-i-preserved c =
    let a = c.args.answer.now in
    let count = get_or a 0 (pos 0) in
    let i = c.loop-i.i in
    let from = c.loop-i.invariant.from in
    let below : i - 1 < length (drop 1 a) = omega (arith, from, c.loop-i-test.true, c.len-i-end.ensures, length-drop 1 a) in
    let next : (i - 1) + 1 ≡ (i + 1) - 1 = omega (arith, from) in
    let here : 1 + (i - 1) ≡ i = omega (arith, from) in
    let kept = to_z-of_z w128 in
    let quotient : to_z w128 (of_z w128 c.quotient.result) ≡ floor_div (get_or (drop 1 a) (i - 1) (pos 0)) count =
    kept c.quotient.result (search rules) ∙ c.quotient.ensures
    ∙ ap₂ int_div_euclid
    (kept c.number.result (search rules)
    ∙ sym (get_or-drop 1 a (i - 1) (pos 0) ∙ ap (λ k. get_or a k (pos 0)) here
    ∙ get_or_from_slice_get a i c.number.result (pos 0) c.number.ensures))
    (kept c.number-count.result (search rules) ∙ sym (get_or_from_slice_get a 0 c.number-count.result (pos 0) c.number-count.ensures)) in
    record {
      from = omega arith;
      each = c.in_ok-push.ensures.items ∙ ap₂ (λ l q. l ++ q ∷ []) c.loop-i.invariant.each quotient
          ∙ sym (map_more (λ sum. floor_div sum count) (drop 1 a) (i - 1) (pos 0) below)
          ∙ ap (λ n. map (λ sum. floor_div sum count) (take n (drop 1 a))) next;
    }

pub returns : goal.returns
returns c =
    let a = c.args.answer.now in
    c.loop-i.invariant.each
    ∙ ap (map (λ sum. floor_div sum (get_or a 0 (pos 0))))
    (take_all (c.loop-i.i - 1) (drop 1 a) (omega (arith, c.loop-i-test.false, c.len-i-end.ensures, length-drop 1 a)))
