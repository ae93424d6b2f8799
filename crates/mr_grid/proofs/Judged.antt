-- A line with a field, as it was read: its fault, and the width of the grid where it has none.
use Rattle.std.proofs.Common.{◌≡◌, ℕ, ◌<◌, ◌≤◌, min, Bool, true, false, ◌==◌, if◌then◌else◌, List, length, Option, None, refl, sym, ap, ◌∙◌}
use Rattle.std.proofs.Common.{arith}
use Rattle.std.proofs.lemmas.Bool.{lt-ltb, eqb-true, eqb-false}
use Rattle.mr_items.specs.Grid.{row_fault, width_of}
use Rattle.mr_items.specs.Lines.{begins_line, fields, is_field_byte, line_at, without_return}
use Rattle.mr_items.specs.Runs.{run_places}
use Rattle.mr_grid.specs.Fields.{stray_of}
use Rattle.mr_grid.specs.Reading.{line_fault, IsWidth}
use Rattle.mr_grid.proofs.Faults.{count_is, line_fault-is, sound_few}
use Rattle.mr_grid.proofs.Rows.{has_fields, first_width}

positive : (k : ℕ) → (k ≡ 0 → ⊥) → 0 < k
positive k ne = omega arith

module _ (bytes : List ℕ) (at : ℕ) (inside : at < length bytes) (starts : begins_line bytes at ≡ true) (columns : ℕ)
    (before : IsWidth bytes at columns) where
  module _ (line : List ℕ) (is : line ≡ without_return (line_at bytes at)) (n width : ℕ) (some : n ≡ 0 → ⊥)
      (cut : n ≡ min (length (run_places is_field_byte line)) 1025) (wide : width ≡ (if columns == 0 then n else columns)) where
    count : n ≡ min (length (fields (line_at bytes at))) 1025
    count = cut ∙ ap (λ k. min k 1025) (ap (λ l. length (run_places is_field_byte l)) is ∙ count_is bytes at)

    pub has : has_fields bytes at ≡ true
    has =
        lt-ltb 0 (length (fields (line_at bytes at))) (positive (length (fields (line_at bytes at))) (λ z. some (omega (arith, count, z))))

    width_is : n ≤ 1024 → width ≡ width_of bytes
    width_is few = by (columns == 0) refl
      where
        by : (t : Bool) → (columns == 0) ≡ t → width ≡ width_of bytes
        by true e = omega (
          arith,
          wide ∙ ap (λ b. if b then n else columns) e,
          first_width bytes at inside starts columns before has (eqb-true columns 0 e),
          count,
          few,
        )
        by false e = wide ∙ ap (λ b. if b then n else columns) e ∙ before.known (positive columns (eqb-false columns 0 e))

    pub some_width : width ≡ 0 → ⊥
    some_width z = by (columns == 0) refl
      where
        by : (t : Bool) → (columns == 0) ≡ t → ⊥
        by true e = some (sym (wide ∙ ap (λ b. if b then n else columns) e) ∙ z)
        by false e = eqb-false columns 0 e (sym (wide ∙ ap (λ b. if b then n else columns) e) ∙ z)

    pub fault_is : (stray : Option ℕ) → (n ≤ 1024 → stray ≡ stray_of line)
        → line_fault at n stray width ≡ row_fault bytes (width_of bytes) at
    fault_is stray found = line_fault-is bytes at n width (width_of bytes) stray count (λ few. found few ∙ ap stray_of is) width_is

    pub sound_width : row_fault bytes (width_of bytes) at ≡ None → (n ≤ 1024) × (width ≡ width_of bytes)
    sound_width sound =
        let few : n ≤ 1024 = omega (arith, count, sound_few bytes at (width_of bytes) sound) in
        (few, width_is few)
