-- The lines that say why a run was refused.
use Rattle.std.specs.Prelude.{ℕ, ◌&&◌, nat_le, if◌then◌else◌, List, ◌++◌, map, take, decimal, codes}
use Rattle.mr_defs.specs.declared.Fault.{Fault}
use Rattle.mr_defs.specs.declared.Fault.TheVariants as fault
use Rattle.mr_items.specs.declared.GridFault.{GridFault}
use Rattle.mr_items.specs.declared.GridFault.TheVariants as grid
use Rattle.mr_items.specs.declared.BitmapFault.{BitmapFault}
use Rattle.mr_items.specs.declared.BitmapFault.TheVariants as bitmap
use Rattle.mr_items.specs.Texts.{line}

-- a refusal's line with this text
abbrev pub fault_line : List ℕ → List ℕ
fault_line text = line (codes "fault: " ++ text)

-- a question mark in place of a byte that is not from 33 to 126
abbrev pub shown_byte : ℕ → ℕ
shown_byte b = if nat_le 33 b && nat_le b 126 then b else 63

abbrev pub shown_text : List ℕ → List ℕ
shown_text key = map shown_byte (take 64 key)

-- of the input with this number, from 1
abbrev pub input_line : ℕ → List ℕ → List ℕ
input_line i text = fault_line (codes "input " ++ (decimal i ++ (codes " " ++ text)))

-- so many inputs, where another number is wanted
abbrev pub inputs_line : ℕ → ℕ → List ℕ
inputs_line given wanted = fault_line (codes "inputs " ++ (decimal given ++ (codes " of " ++ decimal wanted)))

-- the fault of a grid, and of a bitmap
abbrev pub grid_line : ℕ → GridFault → List ℕ
grid_line i (grid.Number o) = input_line i (codes "grid number at " ++ decimal o)
grid_line i (grid.Ragged o) = input_line i (codes "grid ragged at " ++ decimal o)
grid_line i (grid.Wide o) = input_line i (codes "grid wide at " ++ decimal o)

abbrev pub bitmap_name : BitmapFault → List ℕ
bitmap_name bitmap.Short = codes "short"
bitmap_name bitmap.Magic = codes "magic"
bitmap_name bitmap.Header = codes "header"
bitmap_name bitmap.Planes = codes "planes"
bitmap_name bitmap.Depth = codes "depth"
bitmap_name bitmap.Compressed = codes "compressed"
bitmap_name bitmap.Width = codes "width"
bitmap_name bitmap.Height = codes "height"
bitmap_name bitmap.Place = codes "place"
bitmap_name bitmap.Pixels = codes "pixels"

abbrev pub bitmap_line : ℕ → BitmapFault → List ℕ
bitmap_line i f = input_line i (codes "bitmap " ++ bitmap_name f)

-- the line of a fault of emissions, where shown says a key; only jobs with one input have a malformed line
abbrev pub emissions_line : {K : Type 0} → (K → List ℕ) → Fault K → List ℕ
emissions_line shown (fault.Malformed o) = input_line 1 (codes "malformed at " ++ decimal o)
emissions_line shown (fault.Outside k) = fault_line (codes "outside " ++ shown k)
emissions_line shown (fault.Twice k) = fault_line (codes "twice " ++ shown k)
emissions_line shown (fault.Over k) = fault_line (codes "over " ++ shown k)
