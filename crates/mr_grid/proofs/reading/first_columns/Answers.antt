use Rattle.std.proofs.Common.{arith, Err, ap, sym, ◌∙◌}
use Rattle.std.proofs.lemmas.Result.{err_from_is_err_and}
use Rattle.mr_grid.proofs.Joined.{fault_behind}
use Rattle.mr_grid.proofs.reading.first_columns.Goals as goal

pub returns-in_err-at-clause-fault : goal.returns-in_err-at-clause-fault
returns-in_err-at-clause-fault c = λ fault e.
    let draft = c.loop-at.draft in
    let went = err_from_is_err_and c.from_residual-in_err-at.result c.from_residual-in_err-at.ensures.1 in
    fault_behind c.args.bytes.now 0 c.loop-at.at
    (omega arith) draft.numbers.items draft.rows draft.columns c.loop-at.invariant.read c.loop-at.invariant.inside fault
    (c.in_err-at.ensures.fault fault (ap Err (sym went.2) ∙ sym went.1 ∙ e))
