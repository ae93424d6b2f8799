use Rattle.std.proofs.Common.{◌≡◌, ◌++◌, ℕ, get_or, take, sym, subst, ap, arith, ◌∙◌}
use Rattle.std.specs.Prelude.{OnOk, OnErr}
use Rattle.std.specs.List.{range_with_len}
use Rattle.mr_defs.specs.Tasks.{task_emissions}
use Rattle.mr_split.specs.Pieces.{IsSpan}
use Rattle.mr_numeric.proofs.Emitted.{emitted, span_emissions}
use Rattle.mr_numeric.proofs.spanned.SpannedMapper.map.Given.{Over}
use Rattle.mr_numeric.proofs.spanned.SpannedMapper.map.Goals.{After-span}
use Rattle.mr_numeric.proofs.spanned.SpannedMapper.map.Goals as goal

the_span : (g : Over) (c : After-span g) → (c.span.inside.start, c.span.inside.end) ≡ get_or c.args.self.now.spans c.args.task (0, 0)
the_span g c = c.span.view_is ∙ c.get-span.ensures

is_span : (g : Over) (c : After-span g) → IsSpan (g.I.Items.count c.args.self.now.items) (c.span.inside.start, c.span.inside.end)
is_span g c =
    subst (IsSpan (g.I.Items.count c.args.self.now.items)) (sym (the_span g c)) (c.args.self.now.are c.args.task (0, 0) c.requires)

-- what the items of the span emit is what the task does
all_items : (g : Over) (c : After-span g) → emitted (g.I.Items.emits c.args.self.now.items) c.span.inside.start c.span.inside.end
    ≡ task_emissions (g.I.Items.emits c.args.self.now.items) (range_with_len 0 (g.I.Items.count c.args.self.now.items))
    (get_or c.args.self.now.spans c.args.task (0, 0))
all_items g c =
    let is = is_span g c in
    let emits = g.I.Items.emits c.args.self.now.items in
    let count = g.I.Items.count c.args.self.now.items in
    sym (span_emissions emits c.span.inside.start c.span.inside.end count (omega (arith, is.some)) is.inside)
    ∙ ap (task_emissions emits (range_with_len 0 count)) (the_span g c)

pub emit_items-requires-clause-order : goal.emit_items-requires-clause-order
emit_items-requires-clause-order g c = omega (arith, (is_span g (goal.at.emit_items-requires-clause-order g c).After-span).some)

pub emit_items-requires-clause-inside : goal.emit_items-requires-clause-inside
emit_items-requires-clause-inside g c = omega (arith, (is_span g (goal.at.emit_items-requires-clause-inside g c).After-span).inside)

pub returns-clause-ok : goal.returns-clause-ok
returns-clause-ok g c =
    subst (λ l. OnOk c.emit_items.result ((es : _) → g.L.Local.stands c.args.out.now es → g.L.Local.stands c.emit_items.new.out (es ++ l)))
    (all_items g (goal.at.returns-clause-ok g c).After-span) c.emit_items.ensures.ok

pub returns-clause-err : goal.returns-clause-err
returns-clause-err g c =
    subst (λ l. OnErr c.emit_items.result
    ((es : _) → g.L.Local.stands c.args.out.now es → (n : ℕ) × g.L.Local.stands c.emit_items.new.out (es ++ take n l)))
    (all_items g (goal.at.returns-clause-err g c).After-span) c.emit_items.ensures.err
