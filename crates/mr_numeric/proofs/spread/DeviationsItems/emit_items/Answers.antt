use Rattle.std.proofs.Common.{◌+◌, arith}
use Rattle.std.proofs.lemmas.Result.{err_from_is_err_and}
use Rattle.mr_items.specs.Pca.{spread_emits}
use Rattle.mr_numeric.proofs.Emitted.{some_more, front_of_some}
use Rattle.mr_numeric.proofs.spread.DeviationsItems.emit_items.Goals as goal

pub returns-in_err-emit_block-clause-err : goal.returns-in_err-emit_block-clause-err
returns-in_err-emit_block-clause-err g c =
    let rows = c.args.self.now.rows in
    let e = err_from_is_err_and c.from_residual.result c.from_residual.ensures.1 in
    rw e.1 (λ es h.
    let some = c.in_err-emit_block.ensures.err _ (c.loop-at.invariant.stands es h) in
    front_of_some (spread_emits rows.means.now rows.grid.now) c.args.from (g.L.Local.stands c.emit_block.new.out) es c.loop-at.at
    (c.loop-at.at + c.min.result) c.args.to some.0 c.loop-at.invariant.from (omega arith) (omega arith) some.1)

pub loop-at-preserved : goal.loop-at-preserved
loop-at-preserved g c =
    let rows = c.args.self.now.rows in
    record {
      from = omega arith;
      to = omega arith;
      stands = λ es h. some_more (spread_emits rows.means.now rows.grid.now) c.args.from
          (g.L.Local.stands c.emit_block.new.out) es c.loop-at.at (c.loop-at.at + c.min.result) c.loop-at.invariant.from (omega arith)
          (c.in_ok-emit_block.ensures.ok _ (c.loop-at.invariant.stands es h));
      origin = g.met.L.Local.origin_trans _ _ _ c.loop-at.invariant.origin c.in_ok-emit_block.ensures.origin;
    }
