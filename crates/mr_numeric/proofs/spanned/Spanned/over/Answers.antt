use Rattle.std.proofs.Common.{sym, ◌∙◌, ap, subst, arith}
use Rattle.std.specs.Prelude.{flat_map}
use Rattle.std.specs.List.{All, range_with_len}
use Rattle.mr_defs.specs.Tasks.{task_emissions}
use Rattle.mr_items.proofs.AllTasks.{span_tasks}
use Rattle.mr_split.specs.Pieces.{IsSpan}
use Rattle.mr_split.proofs.Numbered.{flat_map-numbered}
use Rattle.mr_split.proofs.Strides.{each_span}
use Rattle.mr_numeric.proofs.spanned.Spanned.over.Goals as goal

pub invariant_of-result : goal.invariant_of-result
invariant_of-result g c =
    let count = g.I.Items.count c.args.items in
    record { are = subst (All (IsSpan count)) (sym c.requires.2) (each_span c.requires.0 count (omega (arith, c.requires.1))) }

pub returns-clause-whole : goal.returns-clause-whole
returns-clause-whole g c =
    let count = g.I.Items.count c.args.items in
    let emits = task_emissions (g.I.Items.emits c.args.items) (range_with_len 0 count) in
    flat_map-numbered emits c.args.spans (0, 0) ∙ ap (flat_map emits) c.requires.2
    ∙ span_tasks (g.I.Items.emits c.args.items) count c.requires.0 c.requires.1
