use Rattle.std.proofs.Common.{◌≡◌, ◌<◌, ◌+◌, ◌++◌, min, length, Some, sym, ap, ◌∙◌, arith, append-nil, rules, take, ◌-◌, drop, subst}
use Rattle.std.proofs.lemmas.Bool.{le-ltb}
use Rattle.mr_items.specs.Lines.{fields, is_field_byte, line_at, without_return}
use Rattle.mr_items.specs.Runs.{run_places}
use Rattle.mr_grid.specs.Fields.{elements_in}
use Rattle.std.proofs.lemmas.List.{take_rest}
use Rattle.mr_grid.specs.Fields.{Continues}
use Rattle.mr_grid.proofs.Goes.{goes_on}
use Rattle.mr_grid.proofs.Faults.{stray_below, without_return_short, elements_none, count_is}
use Rattle.mr_grid.proofs.Judged.{has, fault_is, some_width, sound_width}
use Rattle.mr_grid.proofs.Joined.{read_to}
use Rattle.mr_grid.proofs.Rows.{passed_over, added, refused, line_within}
use Rattle.mr_grid.proofs.reading.read_line.Goals as goal

pub returns-then-line-eq0-clause-next : goal.returns-then-line-eq0-clause-next
returns-then-line-eq0-clause-next c =
    c.min-next.ensures ∙ ap (λ l. min (c.args.at + length l + 1) (length c.args.bytes.now)) c.line_from-whole.ensures

pub returns-then-line-eq0-clause-read : goal.returns-then-line-eq0-clause-read
returns-then-line-eq0-clause-read c = λ from h before.
    let bytes = c.args.bytes.now in
    let at = c.args.at in
    let draft = c.args.draft.now in
    let whole : c.line_from-whole.result.now ≡ line_at bytes at = c.line_from-whole.ensures in
    let line : c.line_without_return.result.now ≡ without_return (line_at bytes at) =
    c.line_without_return.ensures ∙ ap without_return whole in
    let none : length (run_places is_field_byte c.line_without_return.result.now) ≡ 0 =
    omega (arith, c.in_ok-line.ensures.fields, c.if-line-eq0.true) in
    let count : length (fields (line_at bytes at)) ≡ 0 =
    sym (count_is bytes at) ∙ ap (λ l. length (run_places is_field_byte l)) (sym line) ∙ none in
    let numbers = c.in_ok-line.ensures.numbers (omega (arith, c.if-line-eq0.true))
    ∙ ap (λ xs. draft.numbers.items ++ xs) (elements_none c.line_without_return.result.now none) ∙ append-nil draft.numbers.items in
    let next : c.min-next.result ≡ min (at + length (line_at bytes at) + 1) (length bytes) =
    c.min-next.ensures ∙ ap (λ l. min (at + length l + 1) (length bytes)) whole in
    read_to next
    (passed_over bytes at c.requires.inside c.requires.begins draft.columns c.requires.known from h draft.numbers.items draft.rows before
    (le-ltb 0 (length (fields (line_at bytes at))) (omega arith)) _ numbers)

pub fault_of-requires : goal.fault_of-requires
fault_of-requires c = λ field few is.
    let bytes = c.args.bytes.now in
    let line : c.line_without_return.result.now ≡ without_return (line_at bytes c.args.at) =
    c.line_without_return.ensures ∙ ap without_return c.line_from-whole.ensures in
    let below = stray_below c.line_without_return.result.now field (sym (c.in_ok-line.ensures.stray few) ∙ is) in
    omega (arith, below, ap length line, without_return_short (line_at bytes c.args.at), line_within bytes c.args.at c.requires.inside)

pub returns-in-Some-clause-fault : goal.returns-in-Some-clause-fault
returns-in-Some-clause-fault c = λ fault e.
    let bytes = c.args.bytes.now in
    let at = c.args.at in
    let columns = c.args.draft.now.columns in
    let line : c.line_without_return.result.now ≡ without_return (line_at bytes at) =
    c.line_without_return.ensures ∙ ap without_return c.line_from-whole.ensures in
    let is = fault_is bytes at c.requires.inside c.requires.begins columns c.requires.known c.line_without_return.result.now line
    c.in_ok-line.line.fields c.columns_with-columns.result c.if-line-eq0.false c.in_ok-line.ensures.fields c.columns_with-columns.ensures
    c.in_ok-line.line.stray c.in_ok-line.ensures.stray in
    let some = has bytes at c.requires.inside c.requires.begins columns c.requires.known c.line_without_return.result.now line
    c.in_ok-line.line.fields c.columns_with-columns.result c.if-line-eq0.false c.in_ok-line.ensures.fields c.columns_with-columns.ensures in
    let same : c.in-Some.fault ≡ fault = cc in
    refused bytes at c.requires.inside c.requires.begins some fault (sym is ∙ sym c.fault_of.ensures ∙ c.in-Some.is ∙ ap Some same)

pub overflow_add-draft : goal.overflow_add-draft
overflow_add-draft c =
    let few : c.args.draft.now.rows + 1 < 18446744073709551616 = omega (arith, c.requires.few, c.requires.inside) in
    search (rules, few)

pub returns-clause-next : goal.returns-clause-next
returns-clause-next c = c.min-next.ensures ∙ ap (λ l. min (c.args.at + length l + 1) (length c.args.bytes.now)) c.line_from-whole.ensures

pub returns-clause-read : goal.returns-clause-read
returns-clause-read c = λ from h before.
    let bytes = c.args.bytes.now in
    let at = c.args.at in
    let draft = c.args.draft.now in
    let whole : c.line_from-whole.result.now ≡ line_at bytes at = c.line_from-whole.ensures in
    let line : c.line_without_return.result.now ≡ without_return (line_at bytes at) =
    c.line_without_return.ensures ∙ ap without_return whole in
    let is = fault_is bytes at c.requires.inside c.requires.begins draft.columns c.requires.known c.line_without_return.result.now line
    c.in_ok-line.line.fields c.columns_with-columns.result c.if-line-eq0.false c.in_ok-line.ensures.fields c.columns_with-columns.ensures
    c.in_ok-line.line.stray c.in_ok-line.ensures.stray in
    let some = has bytes at c.requires.inside c.requires.begins draft.columns c.requires.known c.line_without_return.result.now line
    c.in_ok-line.line.fields c.columns_with-columns.result c.if-line-eq0.false c.in_ok-line.ensures.fields c.columns_with-columns.ensures in
    let sound = sym is ∙ sym c.fault_of.ensures ∙ c.in_default.is in
    let width = sound_width bytes at c.requires.inside c.requires.begins draft.columns c.requires.known c.line_without_return.result.now
    line c.in_ok-line.line.fields c.columns_with-columns.result c.if-line-eq0.false c.in_ok-line.ensures.fields
    c.columns_with-columns.ensures sound in
    let wide = some_width bytes at c.requires.inside c.requires.begins draft.columns c.requires.known c.line_without_return.result.now line
    c.in_ok-line.line.fields c.columns_with-columns.result c.if-line-eq0.false c.in_ok-line.ensures.fields c.columns_with-columns.ensures in
    let next : c.min-next.result ≡ min (at + length (line_at bytes at) + 1) (length bytes) =
    c.min-next.ensures ∙ ap (λ l. min (at + length l + 1) (length bytes)) whole in
    read_to next
    (added bytes at c.requires.inside c.requires.begins draft.columns c.requires.known from h draft.numbers.items draft.rows before some
    sound _ _ (c.in_ok-line.ensures.numbers width.0 ∙ ap (λ l. draft.numbers.items ++ elements_in l) line) width.1 wide)

pub read_fields-requires : goal.read_fields-requires
read_fields-requires c =
    let bytes = c.args.bytes.now in
    let at = c.args.at in
    let line : c.line_without_return.result.now ≡ without_return (line_at bytes at) =
    c.line_without_return.ensures ∙ ap without_return c.line_from-whole.ensures in
    subst (λ l. Continues l (take (length bytes - at) (drop at bytes))) (sym line)
    (subst (Continues (without_return (line_at bytes at))) (sym (take_rest bytes at)) (goes_on bytes at))
