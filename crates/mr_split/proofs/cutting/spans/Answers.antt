use Rattle.std.proofs.Common.{◌≤◌, length, ap, sym, subst, ◌∙◌, [], ◌∷◌, arith}
use Rattle.std.specs.Prelude.{flat_map}
use Rattle.std.specs.List.{All, range_with_len}
use Rattle.mr_defs.specs.Tasks.{items_in, most_tasks}
use Rattle.mr_defs.proofs.Chains.{spans_of-IsChain}
use Rattle.mr_defs.proofs.Joins.{flat_map-all_spans}
use Rattle.mr_split.specs.Pieces.{IsSpan}
use Rattle.mr_split.proofs.Whole.{items_joined}
use Rattle.mr_split.proofs.Strides.{few_spans, each_span}
use Rattle.mr_split.proofs.cutting.spans.Goals as goal

pub returns-clause-few : goal.returns-clause-few
returns-clause-few c = subst (λ s. length s ≤ most_tasks) (sym c.of.ensures) (few_spans c.args.chunk c.args.items c.requires.chunk)

pub returns-clause-each : goal.returns-clause-each
returns-clause-each c = subst (All (IsSpan c.args.items)) (sym c.of.ensures) (each_span c.args.chunk c.args.items c.requires.chunk)

pub returns-clause-items : goal.returns-clause-items
returns-clause-items c =
    ap (flat_map (λ span. items_in span (range_with_len 0 c.args.items))) c.of.ensures
    ∙ items_joined
    _ _ (flat_map-all_spans (λ x. x ∷ []) c.args.items _ (spans_of-IsChain c.args.chunk c.args.items (omega (arith, c.requires.chunk))))
