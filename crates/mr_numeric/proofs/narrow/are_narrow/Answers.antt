use Rattle.std.proofs.Common.{◌≤◌, [], nat_abs, take, arith, subst, sym}
use Rattle.std.specs.List.{All}
use Rattle.std.proofs.lemmas.List.{take_all}
use Rattle.std.proofs.lemmas.List.Elements.{All-more, All-same}
use Rattle.std.proofs.lemmas.Option.{get_or_from_slice_get}
use Rattle.mr_numeric.proofs.narrow.are_narrow.Goals as goal

pub loop-row-preserved : goal.loop-row-preserved
loop-row-preserved c =
    All-more (All (λ z. nat_abs z ≤ 1448)) c.args.grid.now c.loop-row.row []
    (omega (arith, c.loop-row-test.true, c.rows-row-end.ensures)) c.loop-row.invariant
    (subst (All (λ z. nat_abs z ≤ 1448)) (sym (get_or_from_slice_get c.args.grid.now c.loop-row.row c.row.result.now [] c.row.ensures.row))
    (c.is_narrow.ensures c.if-not-is_narrow.false))

pub returns : goal.returns
returns c = λ _.
    All-same (All (λ z. nat_abs z ≤ 1448)) c.args.grid.now (take c.loop-row.row c.args.grid.now)
    (sym (take_all c.loop-row.row c.args.grid.now (omega (arith, c.loop-row.auto.row-end, c.loop-row-test.false, c.rows-row-end.ensures))))
    c.loop-row.invariant
