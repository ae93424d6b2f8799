use Rattle.std.proofs.Common.{◌≡◌, ◌≤◌, ◌+◌, ◌++◌, length, Err, rules, ap, sym, ◌∙◌, arith}
use Rattle.std.proofs.lemmas.Result.{IfOk-at_ok, err_from_is_err_and}
use Rattle.mr_base.specs.declared.memory.Stop.TheVariants as Stop
use Rattle.mr_grid.specs.Reading.{IsRead}
use Rattle.mr_grid.proofs.Joined.{both_read, fault_behind, read_as}
use Rattle.mr_grid.proofs.Rows.{rows_few}
use Rattle.mr_grid.proofs.Whole.{width_anywhere}
use Rattle.mr_grid.proofs.ranges.+shares.Goals as goal

pub read_lines-requires-clause-known : goal.read_lines-requires-clause-known
read_lines-requires-clause-known g t c = width_anywhere c.args.bytes.now c.args.columns c.args.part.from
    (omega (arith, c.requires.part.order, c.requires.part.inside)) c.requires.columns

pub returns-in_err-back-clause-fault : goal.returns-in_err-back-clause-fault
returns-in_err-back-clause-fault g t c = λ fault e.
    let bytes = c.args.bytes.now in
    let part = c.args.part in
    let middle = c.middle_of-middle.result in
    let front = c.in_ok-front.field-0 in
    let read =
    IfOk-at_ok (λ d. IsRead bytes part.from middle d.numbers.items d.rows d.columns) c.in_ok-front.was c.join-front.ensures.first.0 in
    let went = err_from_is_err_and c.from_residual-in_err-back.result c.from_residual-in_err-back.ensures.1 in
    let both = sym went.1 ∙ e in
    let same : went.0 ≡ Stop.Refused fault = cc in
    fault_behind bytes part.from middle c.middle_of-middle.ensures.inside.0 front.numbers.items front.rows front.columns read
    (omega (arith, c.middle_of-middle.ensures.inside.1, c.requires.part.inside)) fault
    (c.join-front.ensures.second.1 fault (c.in_err-back.was ∙ ap Err (sym went.2 ∙ same)))

pub joined-requires : goal.joined-requires
joined-requires g t c =
    let bytes = c.args.bytes.now in
    let part = c.args.part in
    let middle = c.middle_of-middle.result in
    let front =
    IfOk-at_ok (λ d. IsRead bytes part.from middle d.numbers.items d.rows d.columns) c.in_ok-front.was c.join-front.ensures.first.0 in
    let back =
    IfOk-at_ok (λ d. IsRead bytes middle part.to d.numbers.items d.rows d.columns) c.in_ok-back.was c.join-front.ensures.second.0 in
    let short : length bytes ≤ 9223372036854775807 = search rules in
    omega (
      arith,
      front.counted,
      back.counted,
      rows_few bytes part.from middle,
      rows_few bytes middle part.to,
      c.middle_of-middle.ensures.inside,
      c.requires.part.inside,
      short,
    )

pub returns-clause-read : goal.returns-clause-read
returns-clause-read g t c =
    let bytes = c.args.bytes.now in
    let part = c.args.part in
    let middle = c.middle_of-middle.result in
    let front = c.in_ok-front.field-0 in
    let back = c.in_ok-back.field-0 in
    let front_read =
    IfOk-at_ok (λ d. IsRead bytes part.from middle d.numbers.items d.rows d.columns) c.in_ok-front.was c.join-front.ensures.first.0 in
    let back_read =
    IfOk-at_ok (λ d. IsRead bytes middle part.to d.numbers.items d.rows d.columns) c.in_ok-back.was c.join-front.ensures.second.0 in
    read_as {numbers = front.numbers.items ++ back.numbers.items} {rows = front.rows + back.rows} {columns = back.columns}
    c.in_ok-all.ensures.numbers c.in_ok-all.ensures.rows c.in_ok-all.ensures.columns
    (both_read bytes part.from middle c.middle_of-middle.ensures.inside.0 front.numbers.items front.rows front.columns front_read part.to
    c.middle_of-middle.ensures.inside.1 back.numbers.items back.rows back.columns back_read)
