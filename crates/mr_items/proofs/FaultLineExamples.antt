-- Lines of refusals that are written out.
use Rattle.std.proofs.Common.{refl, ◌≡◌, codes, [], ◌∷◌}
use Rattle.std.specs.Prelude.{decimal}
use Rattle.std.specs.Fmt.{digits}
use Rattle.mr_defs.specs.declared.Fault.TheVariants as fault
use Rattle.mr_items.specs.declared.GridFault.TheVariants as grid
use Rattle.mr_items.specs.declared.BitmapFault.TheVariants as bitmap
use Rattle.mr_items.specs.FaultLines.{shown_text, grid_line, bitmap_line, inputs_line, input_line, emissions_line}

over_a : emissions_line shown_text (fault.Over (codes "a")) ≡ codes "fault: over a\n"
over_a = refl

outside_16 : emissions_line decimal (fault.Outside 16) ≡ codes "fault: outside 16\n"
unfolding digits
outside_16 = refl

twice_3 : emissions_line decimal (fault.Twice 3) ≡ codes "fault: twice 3\n"
unfolding digits
twice_3 = refl

malformed_at_4 : emissions_line shown_text (fault.Malformed 4) ≡ codes "fault: input 1 malformed at 4\n"
unfolding digits
malformed_at_4 = refl

grid_ragged_at_4 : grid_line 1 (grid.Ragged 4) ≡ codes "fault: input 1 grid ragged at 4\n"
unfolding digits
grid_ragged_at_4 = refl

bitmap_pixels : bitmap_line 1 bitmap.Pixels ≡ codes "fault: input 1 bitmap pixels\n"
unfolding digits
bitmap_pixels = refl

inputs_none_of_one : inputs_line 0 1 ≡ codes "fault: inputs 0 of 1\n"
unfolding digits
inputs_none_of_one = refl

second_shape : input_line 2 (codes "shape") ≡ codes "fault: input 2 shape\n"
unfolding digits
second_shape = refl

strange_key : shown_text (97 ∷ 200 ∷ 32 ∷ []) ≡ codes "a??"
strange_key = refl
