-- Lines that were read, and those behind them.
use Rattle.std.proofs.Common.{◌≡◌, ℕ, ◌+◌, ◌≤◌, ℤ, List, ◌++◌, length, filter_map, flat_map, slice_get, Some, sym, subst, ap, ap₂, ◌∙◌}
use Rattle.std.proofs.lemmas.List.{length-append}
use Rattle.std.proofs.lemmas.List.Concat.{flat_map-append}
use Rattle.std.proofs.lemmas.List.Elements.{filter_map-append}
use Rattle.mr_items.specs.Grid.{row_at, row_fault, width_of}
use Rattle.mr_items.specs.declared.GridFault.{GridFault}
use Rattle.mr_grid.specs.Reading.{fault_from, rows_between, IsRead}
use Rattle.mr_grid.proofs.Rows.{rows_split}

-- up to the same place
pub read_to : {bytes : List ℕ} {from at to : ℕ} {numbers : List ℤ} {rows columns : ℕ} → to ≡ at → IsRead bytes from at numbers rows columns
    → IsRead bytes from to numbers rows columns
read_to {bytes} {from} {at} {to} {numbers} {rows} {columns} e read = subst (λ n. IsRead bytes from n numbers rows columns) (sym e) read

-- the same numbers, rows and columns
pub read_as : {bytes : List ℕ} {from to : ℕ} {numbers now : List ℤ} {rows many columns wide : ℕ} → now ≡ numbers → many ≡ rows
    → wide ≡ columns → IsRead bytes from to numbers rows columns → IsRead bytes from to now many wide
read_as {bytes} {from} {to} {numbers} {now} {rows} {many} {columns} {wide} e f k read =
    subst (λ w. IsRead bytes from to now many w) (sym k)
    (subst (λ n. IsRead bytes from to now n columns) (sym f) (subst (λ xs. IsRead bytes from to xs rows columns) (sym e) read))

module _ (bytes : List ℕ) (from at : ℕ) (h : from ≤ at) (numbers : List ℤ) (rows columns : ℕ)
    (before : IsRead bytes from at numbers rows columns) where
  pub both_read : (to : ℕ) → at ≤ to → (more : List ℤ) (others wide : ℕ) → IsRead bytes at to more others wide
      → IsRead bytes from to (numbers ++ more) (rows + others) wide
  both_read to k more others wide behind =
      let all = rows_split bytes from at to h k in
      record {
        begins = behind.begins;
        sound = ap (filter_map (row_fault bytes (width_of bytes))) all
            ∙ filter_map-append (row_fault bytes (width_of bytes)) (rows_between bytes from at) (rows_between bytes at to)
            ∙ ap₂ (λ (fs gs : List GridFault). fs ++ gs) before.sound behind.sound;
        read = ap₂ (λ (xs ys : List ℤ). xs ++ ys) before.read behind.read
            ∙ sym (flat_map-append (row_at bytes) (rows_between bytes from at) (rows_between bytes at to))
            ∙ ap (flat_map (row_at bytes)) (sym all);
        counted = ap₂ (λ n m. n + m) before.counted behind.counted
            ∙ sym (length-append (rows_between bytes from at) (rows_between bytes at to)) ∙ ap length (sym all);
        width = behind.width;
      }

  -- the first fault behind them is the first of all
  pub fault_behind : at ≤ length bytes → (f : GridFault) → fault_from bytes at ≡ Some f → fault_from bytes from ≡ Some f
  fault_behind k f e =
      ap (λ (places : List ℕ). slice_get (filter_map (row_fault bytes (width_of bytes)) places) 0)
      (rows_split bytes from at (length bytes) h k)
      ∙ ap (λ (fs : List GridFault). slice_get fs 0)
      (filter_map-append (row_fault bytes (width_of bytes)) (rows_between bytes from at) (rows_between bytes at (length bytes))
      ∙ ap (λ (fs : List GridFault). fs ++ filter_map (row_fault bytes (width_of bytes)) (rows_between bytes at (length bytes)))
      before.sound)
      ∙ e
