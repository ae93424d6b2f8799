use Rattle.std.proofs.lemmas.Result.{err_from_is_err_and}
use Rattle.mr_container.specs.Block.{block_emissions}
use Rattle.mr_text.proofs.Sending.{sent_none, sent_some, some_more}
use Rattle.mr_lines.proofs.fold.put.Goals as goal

pub returns-in_err-emit_block-in-None-clause-err : goal.returns-in_err-emit_block-in-None-clause-err
returns-in_err-emit_block-in-None-clause-err g c =
    let e = err_from_is_err_and c.from_residual-in_err-emit_block-in-None.result c.from_residual-in_err-emit_block-in-None.ensures.1 in
    let waits = block_emissions c.args.block.now.items in
    rw e.1 (some_more g.L.Local.stands c.args.out.now c.emit_block.new.self waits
    _ (sent_some g.L.Local.stands c.args.out.now c.args.out.now waits waits
    (sent_none g.L.Local.stands c.args.out.now waits) c.emit_block.new.self c.in_err-emit_block-in-None.ensures.err))
