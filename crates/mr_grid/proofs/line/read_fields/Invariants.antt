use Rattle.std.proofs.Common.{◌≡◌, ◌≤◌, ◌<◌, ◌++◌, ◌-◌, length, true}
use Rattle.mr_items.specs.Lines.{is_field_byte}
use Rattle.mr_items.specs.Runs.{begins}
use Rattle.mr_grid.proofs.Elements.{stray_at, elements_at}
use Rattle.mr_grid.proofs.Places.{places_below}
use Rattle.mr_grid.proofs.line.read_fields.Given as goal

abbrev pub invariant-loop-at : goal.invariant-loop-at
invariant-loop-at l = record {
  inside : l.at ≤ length l.line;
  at_field : l.at < length l.line → begins is_field_byte l.line l.at ≡ true;
  few : l.fields ≤ 1025;
  fields : l.fields ≡ length (places_below (begins is_field_byte l.line) l.at);
  stray : l.stray ≡ stray_at l.line (places_below (begins is_field_byte l.line) l.at);
  numbers : l.numbers.items ≡ l.fn.numbers.items ++ elements_at l.line (places_below (begins is_field_byte l.line) l.at);
}

abbrev pub decreases-loop-at : goal.decreases-loop-at
decreases-loop-at l = length l.line - l.at
