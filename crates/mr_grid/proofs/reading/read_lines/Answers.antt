use Rattle.std.proofs.Common.{◌≡◌, ◌<◌, length, arith, Err, ap, sym, ◌∙◌}
use Rattle.std.proofs.lemmas.Result.{err_from_is_err_and}
use Rattle.mr_base.specs.declared.memory.Stop.TheVariants as Stop
use Rattle.mr_grid.proofs.Joined.{fault_behind}
use Rattle.mr_grid.proofs.Rows.{later, no_later, rows_few}
use Rattle.mr_grid.proofs.reading.read_lines.Goals as goal

pub read_line-requires-clause-few : goal.read_line-requires-clause-few
read_line-requires-clause-few c = omega (arith, c.loop-at.invariant.read.counted, rows_few c.args.bytes.now c.args.part.from c.loop-at.at)

pub returns-in_err-at-clause-fault : goal.returns-in_err-at-clause-fault
returns-in_err-at-clause-fault c = λ fault e.
    let draft = c.loop-at.draft in
    let went = err_from_is_err_and c.from_residual-in_err-at.result c.from_residual-in_err-at.ensures.1 in
    let both = sym went.1 ∙ e in
    let same : went.0 ≡ Stop.Refused fault = cc in
    fault_behind c.args.bytes.now c.args.part.from c.loop-at.at c.loop-at.invariant.before draft.numbers.items draft.rows draft.columns
    c.loop-at.invariant.read
    (omega (arith, c.loop-at.invariant.inside, c.requires.part.inside)) fault (c.in_err-at.ensures.fault fault (ap Err (sym went.2 ∙ same)))

pub loop-at-preserved : goal.loop-at-preserved
loop-at-preserved c =
    let bytes = c.args.bytes.now in
    let at = c.loop-at.at in
    let inside : at < length bytes = omega (arith, c.loop-at-test.true, c.requires.part.inside) in
    record {
      before = omega (arith, c.loop-at.invariant.before, later bytes at inside, c.in_ok-at.ensures.next);
      inside = omega (arith, no_later bytes at inside c.args.part.to c.loop-at-test.true c.requires.part.ends, c.in_ok-at.ensures.next);
      read = c.in_ok-at.ensures.read c.args.part.from c.loop-at.invariant.before c.loop-at.invariant.read;
    }
