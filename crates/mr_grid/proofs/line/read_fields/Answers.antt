use Rattle.std.proofs.Common.{◌≡◌, ◌≤◌, ◌<◌, ◌+◌, ◌++◌, not, length, sym, ap, ◌∙◌, arith, append-nil}
use Rattle.std.proofs.lemmas.Bool.{and_parts}
use Rattle.std.proofs.lemmas.List.{length_push}
use Rattle.std.proofs.lemmas.List.Sums.{prefix_len-drop_yes}
use Rattle.mr_items.specs.Grid.{element_of}
use Rattle.mr_items.specs.Lines.{is_field_byte}
use Rattle.mr_items.specs.Runs.{begins, run_at, run_places}
use Rattle.mr_grid.proofs.Elements.{stray_at, elements_at, stray_more, elements_more}
use Rattle.mr_grid.proofs.Places.{places_below, places_same, places_more, places_fewer, within, gap_nowhere, first_begins, next_begins}
use Rattle.mr_grid.proofs.Places.{next_nowhere, filter_map-map}
use Rattle.mr_grid.proofs.line.read_fields.Goals as goal

pub loop-at-init : goal.loop-at-init
loop-at-init c =
    let line = c.args.line.now in
    let none = places_same (begins is_field_byte line) 0 c.run_end-at.result (omega arith)
    (gap_nowhere is_field_byte line 0 c.run_end-at.result c.run_end-at.ensures) in
    record {
      inside = omega (arith, c.run_end-at.ensures, within (λ b. not (is_field_byte b)) line 0 (omega arith));
      at_field = first_begins is_field_byte line c.run_end-at.result c.run_end-at.ensures;
      few = omega arith;
      fields = ap length (sym none);
      stray = ap (stray_at line) (sym none);
      numbers = sym (append-nil _) ∙ ap (λ places. c.args.numbers.now.items ++ elements_at line places) (sym none);
    }

pub loop-at-preserved : goal.loop-at-preserved
loop-at-preserved c =
    let line = c.args.line.now in
    let at = c.loop-at.at in
    let end = c.field_at-field.result.end in
    let next = c.run_end-at-in-loop-at.result in
    let behind : end ≤ length line = omega (arith, c.field_at-field.ensures.end, within is_field_byte line at c.loop-at.invariant.inside) in
    let longer : at < end = omega (
      arith,
      c.field_at-field.ensures.end,
      prefix_len-drop_yes is_field_byte line at 0 (omega arith) (and_parts _ _ (c.loop-at.invariant.at_field (omega arith))).0,
    ) in
    let more = places_more (begins is_field_byte line) at next (omega (arith, longer, c.run_end-at-in-loop-at.ensures))
    (c.loop-at.invariant.at_field (omega arith))
    (next_nowhere is_field_byte line at end next c.field_at-field.ensures.end c.run_end-at-in-loop-at.ensures) in
    record {
      inside = omega (arith, c.run_end-at-in-loop-at.ensures, within (λ b. not (is_field_byte b)) line end behind);
      at_field = next_begins is_field_byte line at end next c.field_at-field.ensures.end c.run_end-at-in-loop-at.ensures;
      few = omega arith;
      fields = ap (λ n. n + 1) c.loop-at.invariant.fields ∙ sym (length_push (places_below (begins is_field_byte line) at) at)
          ∙ ap length (sym more);
      stray = stray_more line (places_below (begins is_field_byte line) at)
          (places_below (begins is_field_byte line) next) at more c.field_at-field.result.element c.field_at-field.ensures.element
          _ c.loop-at.stray c.loop-at.invariant.stray c.in_ok-stray.ensures.stray;
      numbers = elements_more line (places_below (begins is_field_byte line) at)
          (places_below (begins is_field_byte line) next) at more c.field_at-field.result.element c.field_at-field.ensures.element
          c.loop-at.numbers.items _ c.args.numbers.now.items c.loop-at.invariant.numbers c.in_ok-stray.ensures.numbers;
    }

pub returns-else-fields-le-WIDEST-clause-fields : goal.returns-else-fields-le-WIDEST-clause-fields
returns-else-fields-le-WIDEST-clause-fields c = omega (
  arith,
  c.loop-at.invariant.fields,
  c.loop-at.invariant.few,
  places_fewer (begins is_field_byte c.args.line.now) c.loop-at.at (length c.args.line.now) c.loop-at.invariant.inside,
)

pub returns-after-loop-at-clause-numbers : goal.returns-after-loop-at-clause-numbers
returns-after-loop-at-clause-numbers c = λ _.
    let line = c.args.line.now in
    let all : c.loop-at.at ≡ length line = omega (arith, c.loop-at.invariant.inside) in
    c.loop-at.invariant.numbers
    ∙ ap (λ at. c.args.numbers.now.items ++ elements_at line (places_below (begins is_field_byte line) at)) all
    ∙ ap (λ xs. c.args.numbers.now.items ++ xs)
    (sym (filter_map-map element_of (run_at is_field_byte line) (run_places is_field_byte line)))
