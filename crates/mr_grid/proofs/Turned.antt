-- A grid turned: its columns, one after the other, are rows of one length.
use Rattle.std.proofs.Common.{◌≡◌, ◌≤◌, ◌<◌, ◌+◌, ◌*◌, ℕ, zero, suc, ℤ, pos, nat_abs, List, [], ◌∷◌, ◌++◌, length, map, flat_map, get_or}
use Rattle.std.proofs.Common.{refl, sym, ap, ap₂, ◌∙◌, arith, append-nil, inl, inr, ◌⊎◌}
use Rattle.std.specs.Fork.{slice_chunk}
use Rattle.std.specs.List.{All, AllByRecursion, range_with_len}
use Rattle.std.proofs.lemmas.Bool.{cases_lt}
use Rattle.std.proofs.lemmas.List.{get_or_past}
use Rattle.std.proofs.lemmas.List.Concat.{flat_map-append}
use Rattle.std.proofs.lemmas.List.Elements.{All-nil, All-cons, All-append, All-get_or}
use Rattle.std.proofs.lemmas.List.FromFn.{length-map-range_with_len, length-range_with_len}
use Rattle.std.proofs.lemmas.Simd.{get_or-chunk, map-map}
use Rattle.mr_defs.proofs.Joins.{range-append}
use Rattle.mr_items.specs.Grid.{column}
use Rattle.mr_grid.specs.Dense.{rows_of, column_in, turned_of, IsDense}
use Rattle.mr_grid.proofs.Chunks.{rows_of-flat_map, length-flat_map-even, columns_is}
use Rattle.mr_grid.proofs.Whole.{Bounded}

pub flat_map-more : (f : ℕ → List ℤ) (n : ℕ) → flat_map f (range_with_len 0 (n + 1)) ≡ flat_map f (range_with_len 0 n) ++ f n
flat_map-more f n =
    ap (flat_map f) (range-append 0 n 1)
    ∙ flat_map-append f (range_with_len 0 n) (range_with_len (0 + n) 1)
    ∙ ap (λ xs. flat_map f (range_with_len 0 n) ++ xs) (append-nil (f (0 + n)) ∙ ap f (let e : 0 + n ≡ n = omega arith in e))

all_mapped : (f : ℕ → ℤ) → ((r : ℕ) → Bounded (f r)) → (rs : List ℕ) → All Bounded (map f rs)
all_mapped f each [] = All-nil Bounded
all_mapped f each (r ∷ rs) = All-cons Bounded (f r) (map f rs) (each r) (all_mapped f each rs)

all_joined : (f : ℕ → List ℤ) → ((j : ℕ) → All Bounded (f j)) → (js : List ℕ) → All Bounded (flat_map f js)
all_joined f each [] = All-nil Bounded
all_joined f each (j ∷ js) = All-append Bounded (f j) (flat_map f js) (each j) (all_joined f each js)

each_long : (f : ℕ → List ℤ) (n : ℕ) → ((j : ℕ) → length (f j) ≡ n) → (js : List ℕ) → AllByRecursion (λ j. length (f j) ≡ n) js
each_long f n each [] = tt
each_long f n each (j ∷ js) = (each j, each_long f n each js)

same_below : (f g : ℕ → List ℤ) (a n : ℕ) → ((j : ℕ) → j < a + n → f j ≡ g j) → map f (range_with_len a n) ≡ map g (range_with_len a n)
same_below f g a zero same = refl
same_below f g a (suc n) same =
    ap₂ (λ (x : List ℤ) (xs : List (List ℤ)). x ∷ xs) (same a (omega arith)) (same_below f g (a + 1) n (λ j h. same j (omega (arith, h))))

same_mapped : (f g : ℕ → ℤ) → ((r : ℕ) → f r ≡ g r) → (rs : List ℕ) → map f rs ≡ map g rs
same_mapped f g same [] = refl
same_mapped f g same (r ∷ rs) = ap₂ (λ (x : ℤ) (xs : List ℤ). x ∷ xs) (same r) (same_mapped f g same rs)

module _ (numbers : List ℤ) (columns rows : ℕ) (dense : IsDense numbers columns rows) where
  abbrev turned : List ℤ
  turned = flat_map (column_in numbers columns rows) (range_with_len 0 columns)

  long : (j : ℕ) → length (column_in numbers columns rows j) ≡ rows
  long j = length-map-range_with_len (λ r. get_or numbers (r * columns + j) (pos 0)) 0 rows

  even : AllByRecursion (λ j. length (column_in numbers columns rows j) ≡ rows) (range_with_len 0 columns)
  even = each_long (column_in numbers columns rows) rows long (range_with_len 0 columns)

  bounded : (i : ℕ) → Bounded (get_or numbers i (pos 0))
  bounded i = by (cases_lt i (length numbers))
    where
      by : (i < length numbers) ⊎ (length numbers ≤ i) → Bounded (get_or numbers i (pos 0))
      by (inl inside) = All-get_or Bounded numbers i (pos 0) inside dense.bounded
      by (inr past) = omega (arith, ap nat_abs (get_or_past numbers i (pos 0) past))

  pub turned_dense : IsDense turned rows columns
  turned_dense = record {
    size = length-flat_map-even (column_in numbers columns rows) rows (range_with_len 0 columns) even
        ∙ ap (λ n. n * rows) (length-range_with_len 0 columns);
    bounded = all_joined (column_in numbers columns rows)
        (λ j. all_mapped (λ r. get_or numbers (r * columns + j) (pos 0)) (λ r. bounded (r * columns + j)) (range_with_len 0 rows))
        (range_with_len 0 columns);
    no_columns = dense.no_rows;
    no_rows = dense.no_columns;
  }

  -- the numbers at a place of each row are a column of the grid
  column_is : (j : ℕ) → j < columns → column_in numbers columns rows j ≡ column (rows_of numbers columns rows) j
  column_is j h =
      same_mapped (λ r. get_or numbers (r * columns + j) (pos 0)) (λ r. get_or (slice_chunk numbers columns r) j (pos 0))
      (λ r. sym (get_or-chunk (r * columns) columns numbers j (pos 0) h)) (range_with_len 0 rows)
      ∙ sym (map-map (λ row. get_or row j (pos 0)) (slice_chunk numbers columns) (range_with_len 0 rows))

  pub turned_is : rows_of turned rows columns ≡ turned_of (rows_of numbers columns rows)
  turned_is =
      ap (rows_of turned rows) (sym (length-range_with_len 0 columns))
      ∙ rows_of-flat_map (column_in numbers columns rows) rows (range_with_len 0 columns) even
      ∙ same_below (column_in numbers columns rows) (column (rows_of numbers columns rows)) 0 columns
      (λ j h. column_is j (omega (arith, h)))
      ∙ ap (λ n. map (column (rows_of numbers columns rows)) (range_with_len 0 n)) (sym (columns_is numbers columns rows dense))
