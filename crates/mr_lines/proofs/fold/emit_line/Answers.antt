use Rattle.std.proofs.Common.{◌≡◌, ◌++◌, [], sym, ◌∙◌, ap, subst, arith, append-nil}
use Rattle.std.specs.Prelude.{slice_range, OnOk, OnErr}
use Rattle.mr_items.specs.FoldLines.{fields_emit, fold_lines_emits}
use Rattle.mr_items.specs.Lines.{is_field_byte, without_return}
use Rattle.mr_items.specs.Runs.{runs}
use Rattle.mr_container.specs.Block.{block_emissions}
use Rattle.mr_text.specs.Sent.{Sent, SentSome}
use Rattle.mr_text.proofs.Sending.{sent_none}
use Rattle.mr_lines.proofs.Fields as fields
use Rattle.mr_lines.proofs.fold.emit_line.Given.{Over}
use Rattle.mr_lines.proofs.fold.emit_line.Goals.{In_ok-count}
use Rattle.mr_lines.proofs.fold.emit_line.Goals as goal

-- what the line emits is what its fields do
emits_is : (g : Over) (c : In_ok-count g)
    → fold_lines_emits g.K.FieldKey.of_field c.args.text.now c.args.from
    ≡ fields_emit g.K.FieldKey.of_field c.args.from
    (runs is_field_byte (slice_range c.args.text.now c.args.from c.without_return-end.result))
emits_is g c = ap (λ l. fields_emit g.K.FieldKey.of_field c.args.from (runs is_field_byte l))
    (ap without_return c.requires.line ∙ sym c.without_return-end.ensures.rest)

pub returns-then-count-eq0-clause-ok : goal.returns-then-count-eq0-clause-ok
returns-then-count-eq0-clause-ok g c =
    let bs = c.args.text.now in
    let before = block_emissions c.args.block.now.items in
    let place = c.without_return-end.ensures.place in
    let none : fold_lines_emits g.K.FieldKey.of_field bs c.args.from ≡ [] =
    emits_is g (goal.at.returns-then-count-eq0-clause-ok g c).In_ok-count
    ∙ ap (fields_emit g.K.FieldKey.of_field c.args.from)
    (fields.no_field bs c.args.from c.without_return-end.result place.0
    (omega (arith, place.1, c.requires.inside)) c.edges_of_fields.new.edges.items c.in_ok-count.count c.in_ok-count.ensures.number
    c.in_ok-count.ensures.edges c.if-count-eq0.true) in
    subst (λ all. Sent g.L.Local.stands c.args.out.now c.args.out.now all before) (sym (ap (λ l. before ++ l) none ∙ append-nil before))
    (sent_none g.L.Local.stands c.args.out.now before)

pub returns-clause-ok : goal.returns-clause-ok
returns-clause-ok g c =
    let before = block_emissions c.args.block.now.items in
    subst (λ es. OnOk c.put.result
    (Sent g.L.Local.stands c.args.out.now c.put.new.out (before ++ es) (block_emissions c.put.new.block.items)))
    (sym (emits_is g (goal.at.returns-clause-ok g c).In_ok-count ∙ c.in_ok-pair.ensures.same c.args.from)) c.put.ensures.ok

pub returns-clause-err : goal.returns-clause-err
returns-clause-err g c =
    let before = block_emissions c.args.block.now.items in
    subst (λ es. OnErr c.put.result (SentSome g.L.Local.stands c.args.out.now c.put.new.out (before ++ es)))
    (sym (emits_is g (goal.at.returns-clause-err g c).In_ok-count ∙ c.in_ok-pair.ensures.same c.args.from)) c.put.ensures.err
