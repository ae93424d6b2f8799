-- All lines of a text without a fault: the rows are of one length, and their numbers are elements.
use Rattle.std.proofs.Common.{◌≡◌, ℕ, zero, suc, ◌+◌, ◌*◌, ◌<◌, ◌≤◌, ℤ, pos, neg_ℤ, nat_abs, Bool, true, false, not, ◌==◌, nat_lt, is_none}
use Rattle.std.proofs.Common.{cond, if◌then◌else◌, List, [], ◌∷◌, length, map, filter, filter_map, flat_map, find, get_or, slice_get}
use Rattle.std.proofs.Common.{Option, Some, None, option_map, Ok, Err, refl, sym, ap, ap₂, ◌∙◌, arith, inl, inr, ◌⊎◌}
use Rattle.std.specs.List.{All, AllByRecursion, cons_option, list_all}
use Rattle.std.specs.Option.{option_map_or}
use Rattle.std.specs.Char.{is_ascii_digit}
use Rattle.std.specs.Str.Parse.{digits_value, starts_with_minus}
use Rattle.std.proofs.lemmas.Bool.{and_parts, cases_lt, eqb-true, ltb-true, ltb-false, leb-true}
use Rattle.std.proofs.lemmas.List.{length-append, length-map, nil_from_length}
use Rattle.std.proofs.lemmas.List.Elements.{All-nil, All-cons, All-append, All-same}
use Rattle.std.proofs.lemmas.Option.{slice_get-get_or}
use Rattle.mr_defs.specs.Limits.{greatest_element}
use Rattle.mr_items.specs.Grid.{columns_of, element_of, row_at, row_fault, row_places, width_of, grid_of, rows_in, stray_in}
use Rattle.mr_items.specs.Lines.{fields, is_field_byte, line_at, line_places, without_return}
use Rattle.mr_items.specs.Number.{is_numeral_up_to, without_minus}
use Rattle.mr_items.specs.Runs.{run_at, run_places}
use Rattle.mr_items.specs.declared.GridFault.{GridFault}
use Rattle.mr_items.specs.declared.GridFault.TheVariants as fault
use Rattle.mr_grid.specs.Dense.{rows_of, IsDense}
use Rattle.mr_grid.specs.Reading.{fault_from, rows_between, IsRead, IsWidth}
use Rattle.mr_grid.proofs.Chunks.{columns_is, length-rows_of, rows_of-flat_map, length-flat_map-even}
use Rattle.mr_grid.proofs.Places.{filter_map-map}
use Rattle.mr_grid.proofs.Rows.{all_rows, has_fields, rows_few, rows_split}

-- where nothing is found that gives nothing, each gives one
each_gives : {Y : Type 0} (h : ℕ → Option Y) (xs : List ℕ) → find (λ x. is_none (h x)) xs ≡ None → length (filter_map h xs) ≡ length xs
each_gives h [] e = refl
each_gives h (x ∷ xs) e = by (h x) e (each_gives h xs)
  where
    by : (o : Option _) → cond (is_none o) (Some x) (find (λ y. is_none (h y)) xs) ≡ None
        → (find (λ y. is_none (h y)) xs ≡ None → length (filter_map h xs) ≡ length xs)
        → length (cons_option o (filter_map h xs)) ≡ suc (length xs)
    by None k rest = absurd (cc)
    by (Some y) k rest = ap suc (rest k)

-- a row without a fault has as many numbers as the grid has columns
row_even : (bytes : List ℕ) (width place : ℕ) → row_fault bytes width place ≡ None
    → (length (fields (line_at bytes place)) ≡ width) × (length (row_at bytes place) ≡ width)
row_even bytes width place e = by (nat_lt 1024 count) e
  where
    line : List ℕ
    line = without_return (line_at bytes place)

    count : ℕ
    count = length (fields (line_at bytes place))

    third : (o : Option ℕ) → option_map fault.Number (option_map (λ field. place + field) o) ≡ None → o ≡ None
    third None k = refl
    third (Some s) k = absurd (cc)

    second : (t : Bool) → (count == width) ≡ t
        → (if not t then Some (fault.Ragged place) else option_map fault.Number (stray_in bytes place)) ≡ None
        → (length (fields (line_at bytes place)) ≡ width) × (length (row_at bytes place) ≡ width)
    second true f k =
        let found = third (find (λ field. is_none (element_of (run_at is_field_byte line field))) (run_places is_field_byte line)) k in (
          eqb-true count width f,
          ap length (filter_map-map element_of (run_at is_field_byte line) (run_places is_field_byte line))
              ∙ each_gives (λ field. element_of (run_at is_field_byte line field)) (run_places is_field_byte line) found
              ∙ sym (length-map (run_places is_field_byte line) (run_at is_field_byte line)) ∙ eqb-true count width f,
        )
    second false f k = absurd (cc)

    by : (t : Bool) → (if t then Some (fault.Wide place)
        else (if not (count == width) then Some (fault.Ragged place) else option_map fault.Number (stray_in bytes place))) ≡ None
        → (length (fields (line_at bytes place)) ≡ width) × (length (row_at bytes place) ≡ width)
    by true k = absurd (cc)
    by false k = second (count == width) refl k

-- nor more than 1024
row_narrow : (bytes : List ℕ) (width place : ℕ) → row_fault bytes width place ≡ None → length (fields (line_at bytes place)) ≤ 1024
row_narrow bytes width place e = by (nat_lt 1024 count) refl e
  where
    count : ℕ
    count = length (fields (line_at bytes place))

    by : (t : Bool) → nat_lt 1024 count ≡ t
        → (if t then Some (fault.Wide place)
        else (if not (count == width) then Some (fault.Ragged place) else option_map fault.Number (stray_in bytes place))) ≡ None
        → count ≤ 1024
    by true f k = absurd (cc)
    by false f k = ltb-false 1024 count f

all_even : (bytes : List ℕ) (width : ℕ) (places : List ℕ) → filter_map (row_fault bytes width) places ≡ []
    → AllByRecursion (λ place. length (row_at bytes place) ≡ width) places
all_even bytes width [] e = tt
all_even bytes width (p ∷ ps) e = by (row_fault bytes width p) refl e (all_even bytes width ps)
  where
    by : (o : Option GridFault) → row_fault bytes width p ≡ o → cons_option o (filter_map (row_fault bytes width) ps) ≡ []
        → (filter_map (row_fault bytes width) ps ≡ [] → AllByRecursion (λ place. length (row_at bytes place) ≡ width) ps)
        → (length (row_at bytes p) ≡ width) × AllByRecursion (λ place. length (row_at bytes place) ≡ width) ps
    by None is k rest = ((row_even bytes width p is).1, rest k)
    by (Some f) is k rest = absurd (cc)

-- an element is within the bound
abbrev pub Bounded : ℤ → Type 0
Bounded z = nat_abs z ≤ greatest_element

element_bounded : (minus : Bool) (n : ℕ) → n ≤ greatest_element → Bounded (if minus then neg_ℤ (pos n) else pos n)
element_bounded false n h = h
element_bounded true zero h = h
element_bounded true (suc n) h = h

elements_bounded : (texts : List (List ℕ)) → All Bounded (filter_map element_of texts)
elements_bounded [] = All-nil Bounded
elements_bounded (t ∷ ts) = by (is_numeral_up_to greatest_element (without_minus t)) refl (elements_bounded ts)
  where
    number : ℤ
    number = if starts_with_minus t then neg_ℤ (pos (digits_value 10 (without_minus t))) else pos (digits_value 10 (without_minus t))

    by : (b : Bool) → is_numeral_up_to greatest_element (without_minus t) ≡ b → All Bounded (filter_map element_of ts)
        → All Bounded (cons_option (if b then Some number else None) (filter_map element_of ts))
    by false e rest = rest
    by true e rest =
        let small = leb-true (digits_value 10 (without_minus t)) greatest_element
        (and_parts (list_all is_ascii_digit (without_minus t)) _ (and_parts (nat_lt 0 (length (without_minus t))) _ e).1).1 in
        All-cons Bounded number (filter_map element_of ts)
        (element_bounded (starts_with_minus t) (digits_value 10 (without_minus t)) small) rest

rows_bounded : (bytes : List ℕ) (places : List ℕ) → All Bounded (flat_map (row_at bytes) places)
rows_bounded bytes [] = All-nil Bounded
rows_bounded bytes (p ∷ ps) =
    All-append Bounded (row_at bytes p) (flat_map (row_at bytes) ps) (elements_bounded (fields (line_at bytes p))) (rows_bounded bytes ps)

-- the first of some places that pass passes, and its row has a number
first_passes : (p : ℕ → Bool) (places : List ℕ) (q : ℕ) → slice_get (filter p places) 0 ≡ Some q → p q ≡ true
first_passes p [] q e = absurd (cc)
first_passes p (x ∷ xs) q e = by (p x) refl e (first_passes p xs q)
  where
    by : (t : Bool) → p x ≡ t → slice_get (cond t (x ∷ filter p xs) (filter p xs)) 0 ≡ Some q
        → (slice_get (filter p xs) 0 ≡ Some q → p q ≡ true) → p q ≡ true
    by true f k rest = let same : x ≡ q = cc in ap p (sym same) ∙ f
    by false f k rest = rest k

first_gives_none : (g : ℕ → Option GridFault) (places : List ℕ) (q : ℕ) → filter_map g places ≡ [] → slice_get places 0 ≡ Some q
    → g q ≡ None
first_gives_none g [] q e k = absurd (cc)
first_gives_none g (x ∷ xs) q e k = by (g x) refl e
  where
    by : (o : Option GridFault) → g x ≡ o → cons_option o (filter_map g xs) ≡ [] → g q ≡ None
    by None is m = let same : x ≡ q = cc in ap g (sym same) ∙ is
    by (Some f) is m = absurd (cc)

-- a grid without columns has no rows, and a grid without rows no columns
pub no_width : (bytes : List ℕ) → width_of bytes ≡ 0 → row_places bytes ≡ []
no_width bytes e = by (row_places bytes) refl
  where
    by : (places : List ℕ) → row_places bytes ≡ places → places ≡ []
    by [] is = refl
    by (p ∷ ps) is =
        let first : slice_get (row_places bytes) 0 ≡ Some p = ap (λ (l : List ℕ). slice_get l 0) is in
        let some = ltb-true 0 (length (fields (line_at bytes p))) (first_passes (has_fields bytes) (line_places bytes) p first) in
        let none : length (fields (line_at bytes p)) ≡ 0 =
        sym (ap (λ o. option_map_or (λ place. length (fields (line_at bytes place))) o 0) first) ∙ e in
        absurd (omega (arith, some, none))

pub no_row : (bytes : List ℕ) → row_places bytes ≡ [] → width_of bytes ≡ 0
no_row bytes e = ap (λ (places : List ℕ). option_map_or (λ place. length (fields (line_at bytes place))) (slice_get places 0) 0) e

module _ (bytes : List ℕ) (columns : ℕ) where
  -- the columns, once all lines are read
  pub width_at_end : IsWidth bytes (length bytes) columns → columns ≡ width_of bytes
  width_at_end width = by (cases_lt 0 columns)
    where
      by : (0 < columns) ⊎ (columns ≤ 0) → columns ≡ width_of bytes
      by (inl some) = width.known some
      by (inr few) = let none : columns ≡ 0 = omega arith in none ∙ sym (no_row bytes (all_rows bytes ∙ width.none none))

  -- they serve at each place
  pub width_anywhere : (at : ℕ) → at ≤ length bytes → columns ≡ width_of bytes → IsWidth bytes at columns
  width_anywhere at h e = record {
    known = λ _. e;
    none = λ z. nil_from_length (rows_between bytes 0 at) (omega (
      arith,
      ap length (sym (all_rows bytes) ∙ no_width bytes (sym e ∙ z)),
      ap length (rows_split bytes 0 at (length bytes) (omega arith) h),
      length-append (rows_between bytes 0 at) (rows_between bytes at (length bytes)),
    ));
  }

module _ (bytes : List ℕ) (numbers : List ℤ) (rows columns : ℕ) (read : IsRead bytes 0 (length bytes) numbers rows columns) where
  abbrev places : List ℕ
  places = rows_between bytes 0 (length bytes)

  even : AllByRecursion (λ place. length (row_at bytes place) ≡ width_of bytes) places
  even = all_even bytes (width_of bytes) places read.sound

  wide : columns ≡ width_of bytes
  wide = width_at_end bytes columns read.width

  size : length numbers ≡ rows * columns
  size = ap length read.read ∙ length-flat_map-even (row_at bytes) (width_of bytes) places even
      ∙ ap₂ (λ n w. n * w) (sym read.counted) (sym wide)

  pub dense : IsDense numbers columns rows
  dense = record {
    size = size;
    bounded = All-same Bounded numbers (flat_map (row_at bytes) places) read.read (rows_bounded bytes places);
    no_columns = λ z. wide ∙ no_row bytes (all_rows bytes ∙ nil_from_length places (sym read.counted ∙ z));
    no_rows = λ z. read.counted ∙ ap length (sym (all_rows bytes) ∙ no_width bytes (sym wide ∙ z));
  }

  narrow : columns ≤ 1024
  narrow = by (cases_lt 0 rows)
    where
      by : (0 < rows) ⊎ (rows ≤ 0) → columns ≤ 1024
      by (inl some) =
          let first : slice_get places 0 ≡ Some (get_or places 0 0) = slice_get-get_or places 0 0 (omega (arith, read.counted)) in
          let sound = first_gives_none (row_fault bytes (width_of bytes)) places (get_or places 0 0) read.sound first in
          omega (
            arith,
            row_narrow bytes (width_of bytes) (get_or places 0 0) sound,
            (row_even bytes (width_of bytes) (get_or places 0 0) sound).0,
            wide,
          )
      by (inr few) = let none : rows ≡ 0 = omega arith in omega (arith, dense.no_columns none)

  few : rows ≤ length bytes
  few = omega (arith, read.counted, rows_few bytes 0 (length bytes))

  rows_are : rows_of numbers columns rows ≡ map (row_at bytes) places
  rows_are =
      ap₂ (λ xs n. rows_of xs columns n) read.read read.counted
      ∙ ap (λ w. rows_of (flat_map (row_at bytes) places) w (length places)) wide
      ∙ rows_of-flat_map (row_at bytes) (width_of bytes) places even

  whole : grid_of bytes ≡ Ok (rows_of numbers columns rows)
  whole =
      let sound : slice_get (filter_map (row_fault bytes (width_of bytes)) (row_places bytes)) 0
      ≡ None = ap (λ ps. slice_get (filter_map (row_fault bytes (width_of bytes)) ps) 0) (all_rows bytes)
      ∙ ap (λ (fs : List GridFault). slice_get fs 0) read.sound in
      ap (λ o. option_map_or Err o (Ok (rows_in bytes))) sound ∙ ap (λ ps. Ok (map (row_at bytes) ps)) (all_rows bytes)
      ∙ ap Ok (sym rows_are)

  -- what is promised of the grid of these numbers
  module _ (grid : List (List ℤ)) (is : grid ≡ rows_of numbers columns rows) where
    pub whole_grid : grid_of bytes ≡ Ok grid
    whole_grid = whole ∙ ap Ok (sym is)

    pub narrow_grid : columns_of grid ≤ 1024
    narrow_grid = omega (arith, ap columns_of is, columns_is numbers columns rows dense, narrow)

    pub short_grid : length grid ≤ length bytes
    short_grid = omega (arith, ap length is, length-rows_of numbers columns rows, few)

-- the first fault of all lines is that of the grid
pub whole_fault : (bytes : List ℕ) (f : GridFault) → fault_from bytes 0 ≡ Some f → grid_of bytes ≡ Err f
whole_fault bytes f e = ap (λ o. option_map_or Err o (Ok (rows_in bytes)))
    (ap (λ ps. slice_get (filter_map (row_fault bytes (width_of bytes)) ps) 0) (all_rows bytes) ∙ e)
