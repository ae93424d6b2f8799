-- Rows of one length, cut from the list of all numbers.
use Rattle.std.proofs.Common.{◌≡◌, ◌≤◌, ◌<◌, ◌+◌, ◌*◌, ℕ, zero, suc, ℤ, List, [], ◌∷◌, ◌++◌, length, take, drop, map, flat_map, Option}
use Rattle.std.proofs.Common.{Some, slice_get, refl, sym, ap, ap₂, ◌∙◌, arith, inl, inr, ◌⊎◌}
use Rattle.std.specs.Fork.{slice_chunk}
use Rattle.std.specs.List.{AllByRecursion, range_with_len}
use Rattle.std.proofs.lemmas.List.{length-append, take_at, drop_at, drop-drop}
use Rattle.std.proofs.lemmas.List.FromFn.{length-map-range_with_len, get_or-map-range_with_len}
use Rattle.std.proofs.lemmas.Bool.{cases_lt}
use Rattle.std.proofs.lemmas.Nat.{mul-le}
use Rattle.std.proofs.lemmas.Option.{slice_get-get_or}
use Rattle.std.specs.Option.{option_map_or}
use Rattle.std.proofs.lemmas.Simd.{length-chunk}
use Rattle.mr_items.specs.Grid.{columns_of}
use Rattle.mr_grid.specs.Dense.{rows_of, IsDense}

module _ (numbers : List ℤ) (columns rows : ℕ) where
  pub length-rows_of : length (rows_of numbers columns rows) ≡ rows
  length-rows_of = length-map-range_with_len (slice_chunk numbers columns) 0 rows

  pub row_of : (r : ℕ) → r < rows → slice_get (rows_of numbers columns rows) r ≡ Some (slice_chunk numbers columns r)
  row_of r h = slice_get-get_or (rows_of numbers columns rows) r [] (omega (arith, length-rows_of))
      ∙ ap Some (get_or-map-range_with_len (slice_chunk numbers columns) 0 rows r r [] h (omega arith))

  pub row_within : (r : ℕ) → r < rows → length numbers ≡ rows * columns → r * columns + columns ≤ length numbers
  row_within r h size = omega (arith, size, mul-le (r + 1) columns rows columns (omega arith) (omega arith))

  pub columns_is : IsDense numbers columns rows → columns_of (rows_of numbers columns rows) ≡ columns
  columns_is dense = by (cases_lt 0 rows)
    where
      by : (0 < rows) ⊎ (rows ≤ 0) → columns_of (rows_of numbers columns rows) ≡ columns
      by (inl some) = ap (λ (o : Option (List ℤ)). option_map_or length o 0) (row_of 0 some)
          ∙ length-chunk (0 * columns) columns numbers (row_within 0 some dense.size)
      by (inr few) =
          let none : rows ≡ 0 = omega arith in
          ap (λ n. columns_of (rows_of numbers columns n)) none ∙ sym (dense.no_columns none)

-- a row of the rest stands one further behind a first row
shifted : (row rest : List ℤ) (w a n : ℕ) → length row ≡ w
    → map (slice_chunk (row ++ rest) w) (range_with_len (a + 1) n) ≡ map (slice_chunk rest w) (range_with_len a n)
shifted row rest w a zero e = refl
shifted row rest w a (suc n) e =
    let place : (a + 1) * w ≡ w + a * w = omega arith in
    let behind : drop ((a + 1) * w) (row ++ rest) ≡ drop (a * w) rest =
    ap (λ k. drop k (row ++ rest)) place ∙ sym (drop-drop (a * w) w (row ++ rest)) ∙ ap (drop (a * w)) (drop_at row rest w e) in
    ap₂ (λ (x : List ℤ) (xs : List (List ℤ)). x ∷ xs) (ap (take w) behind) (shifted row rest w (a + 1) n e)

-- the lists of some places, each of one length, are the rows of them all
pub rows_of-flat_map : (f : ℕ → List ℤ) (w : ℕ) (places : List ℕ) → AllByRecursion (λ p. length (f p) ≡ w) places
    → rows_of (flat_map f places) w (length places) ≡ map f places
rows_of-flat_map f w [] even = refl
rows_of-flat_map f w (p ∷ ps) even =
    let first : take w (drop (0 * w) (f p ++ flat_map f ps)) ≡ f p =
    ap (λ k. take w (drop k (f p ++ flat_map f ps))) (let e : 0 * w ≡ 0 = omega arith in e) ∙ take_at (f p) (flat_map f ps) w even.0 in
    ap₂ (λ (x : List ℤ) (xs : List (List ℤ)). x ∷ xs) first
    (shifted (f p) (flat_map f ps) w 0 (length ps) even.0 ∙ rows_of-flat_map f w ps even.1)

pub length-flat_map-even : (f : ℕ → List ℤ) (w : ℕ) (places : List ℕ) → AllByRecursion (λ p. length (f p) ≡ w) places
    → length (flat_map f places) ≡ length places * w
length-flat_map-even f w [] even = omega arith
length-flat_map-even f w (p ∷ ps) even = omega (arith, length-append (f p) (flat_map f ps), even.0, length-flat_map-even f w ps even.1)
