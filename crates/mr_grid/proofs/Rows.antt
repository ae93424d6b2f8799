-- The lines of a grid, met one after the other: what each adds, and one that is refused.
use Rattle.std.proofs.Common.{◌≡◌, ℕ, ◌+◌, ◌-◌, ◌<◌, ◌≤◌, ℤ, Bool, true, false, true≢false, not, ◌==◌, ◌||◌, nat_lt, cond, List, [], ◌∷◌}
use Rattle.std.proofs.Common.{◌++◌, length, filter, filter_map, flat_map, drop, get_or, slice_get, Some, None, sym, ap, ap₂, ◌∙◌, arith}
use Rattle.std.proofs.Common.{append-nil, inl, inr}
use Rattle.std.specs.List.{range_with_len, prefix_len, cons_option}
use Rattle.std.specs.Option.{option_map_or}
use Rattle.std.proofs.lemmas.Bool.{cases_lt, ne_eqb}
use Rattle.std.proofs.lemmas.List.{length_push}
use Rattle.std.proofs.lemmas.List.Concat.{flat_map-append}
use Rattle.std.proofs.lemmas.List.Folds.{length-prefix_len}
use Rattle.std.proofs.lemmas.List.Elements.{filter-append, filter_map-append}
use Rattle.std.proofs.lemmas.List.FromFn.{length-range_with_len}
use Rattle.std.proofs.lemmas.List.Sums.{length-filter, count_by-le-length}
use Rattle.mr_defs.proofs.Places.{IsNowhere}
use Rattle.mr_items.specs.Grid.{row_at, row_fault, row_places, width_of}
use Rattle.mr_items.specs.Lines.{begins_line, fields, line_at}
use Rattle.mr_items.specs.declared.GridFault.{GridFault}
use Rattle.mr_grid.specs.Reading.{fault_from, next_line, rows_between, IsRead, IsWidth}
use Rattle.mr_grid.proofs.Places.{negated, negated_not, or_true, less, places_below, places_between, between_more, between_split, passes}
use Rattle.mr_grid.proofs.Places.{stops, within}

abbrev pub has_fields : List ℕ → ℕ → Bool
has_fields bytes place = nat_lt 0 (length (fields (line_at bytes place)))

-- the rows of the whole text, and those of neighbouring lines
pub all_rows : (bytes : List ℕ) → row_places bytes ≡ rows_between bytes 0 (length bytes)
all_rows bytes = ap (λ n. filter (has_fields bytes) (places_below (begins_line bytes) n)) (sym (less (length bytes)))

pub rows_split : (bytes : List ℕ) (from at to : ℕ) → from ≤ at → at ≤ to
    → rows_between bytes from to ≡ rows_between bytes from at ++ rows_between bytes at to
rows_split bytes from at to h k =
    ap (filter (has_fields bytes)) (between_split (begins_line bytes) from at to h k)
    ∙ filter-append (has_fields bytes) (places_between (begins_line bytes) from at) (places_between (begins_line bytes) at to)

pub rows_few : (bytes : List ℕ) (from at : ℕ) → length (rows_between bytes from at) ≤ at - from
rows_few bytes from at = omega (
  arith,
  length-filter (has_fields bytes) (places_between (begins_line bytes) from at),
  count_by-le-length (has_fields bytes) (places_between (begins_line bytes) from at),
  length-filter (begins_line bytes) (range_with_len from (at - from)),
  count_by-le-length (begins_line bytes) (range_with_len from (at - from)),
  length-range_with_len from (at - from),
)

pub line_within : (bytes : List ℕ) (at : ℕ) → at < length bytes → at + length (line_at bytes at) ≤ length bytes
line_within bytes at h =
    omega (arith, length-prefix_len (λ b. not (b == 10)) (drop at bytes), within (λ b. not (b == 10)) bytes at (omega arith))

-- a line begins behind a byte 10
pub begins_behind : (bytes : List ℕ) (at next : ℕ) → at ≤ next → next < length bytes
    → next ≡ at + prefix_len (λ b. not (b == 10)) (drop at bytes) → begins_line bytes (next + 1) ≡ true
begins_behind bytes at next h k is =
    let place : next + 1 - 1 ≡ at + prefix_len (λ b. not (b == 10)) (drop at bytes) = omega (arith, is) in
    let byte : (get_or bytes (next + 1 - 1) 0 == 10)
    ≡ true = negated_not (get_or bytes (next + 1 - 1) 0 == 10)
    (ap (λ k. not (get_or bytes k 0 == 10)) place ∙ stops (λ b. not (b == 10)) bytes at (omega (arith, k, is))) in
    ap (λ b. (next + 1 == 0) || b) byte ∙ or_true (next + 1 == 0)

module _ (bytes : List ℕ) (at : ℕ) (inside : at < length bytes) where
  line_end : at + length (line_at bytes at) ≡ at + prefix_len (λ b. not (b == 10)) (drop at bytes)
  line_end = ap (λ n. at + n) (length-prefix_len (λ b. not (b == 10)) (drop at bytes))

  pub later : at < next_line bytes at
  later = omega (arith, inside)

  line_nowhere : IsNowhere (begins_line bytes) (at + 1) (next_line bytes at)
  line_nowhere q l m = ap₂ (λ a b. a || b) (ne_eqb q 0 (λ z. absurd (omega (arith, l, z))))
      (negated (get_or bytes (q - 1) 0 == 10)
      (passes (λ b. not (b == 10)) bytes at (q - 1) (omega (arith, l)) (omega (arith, l, m, line_end))))

  pub line_begins : next_line bytes at < length bytes → begins_line bytes (next_line bytes at) ≡ true
  line_begins h =
      let end = at + length (line_at bytes at) in
      let place : next_line bytes at ≡ end + 1 = omega (arith, h) in
      ap (begins_line bytes) place ∙ begins_behind bytes at end (omega arith) (omega (arith, h)) line_end

  -- the next line begins no later than another one behind this
  pub no_later : (to : ℕ) → at < to → (to < length bytes → begins_line bytes to ≡ true) → next_line bytes at ≤ to
  no_later to h begins = elim (cases_lt to (next_line bytes at)) [
    | inl past ↦ absurd (true≢false (sym (begins (omega (arith, past))) ∙ line_nowhere to (omega (arith, h)) past))
    | inr within ↦ within
  ]

  module _ (starts : begins_line bytes at ≡ true) (from : ℕ) (h : from ≤ at) where
    rows_next : rows_between bytes from (next_line bytes at) ≡ rows_between bytes from at ++ cond (has_fields bytes at) (at ∷ []) []
    rows_next = ap (filter (has_fields bytes)) (between_more (begins_line bytes) from at (next_line bytes at) h later starts line_nowhere)
        ∙ filter-append (has_fields bytes) (places_between (begins_line bytes) from at) (at ∷ [])

    rows_with : has_fields bytes at ≡ true → rows_between bytes from (next_line bytes at) ≡ rows_between bytes from at ++ at ∷ []
    rows_with e = rows_next ∙ ap (λ b. rows_between bytes from at ++ cond b (at ∷ []) []) e

    rows_without : has_fields bytes at ≡ false → rows_between bytes from (next_line bytes at) ≡ rows_between bytes from at
    rows_without e = rows_next ∙ ap (λ b. rows_between bytes from at ++ cond b (at ∷ []) []) e ∙ append-nil (rows_between bytes from at)

  module _ (starts : begins_line bytes at ≡ true) (columns : ℕ) (width : IsWidth bytes at columns) where
    -- the first row gives the width
    pub first_width : has_fields bytes at ≡ true → columns ≡ 0 → width_of bytes ≡ length (fields (line_at bytes at))
    first_width e none =
        ap (λ (places : List ℕ). option_map_or (λ place. length (fields (line_at bytes place))) (slice_get places 0) 0)
        (all_rows bytes ∙ rows_split bytes 0 (next_line bytes at) (length bytes) (omega arith) (omega arith)
        ∙ ap (λ places. places ++ rows_between bytes (next_line bytes at) (length bytes))
        (rows_with starts 0 (omega arith) e ∙ ap (λ places. places ++ at ∷ []) (width.none none)))

    module _ (from : ℕ) (h : from ≤ at) (numbers : List ℤ) (rows : ℕ) (before : IsRead bytes from at numbers rows columns) where
      -- a line without a field
      pub passed_over : has_fields bytes at ≡ false → (now : List ℤ) → now ≡ numbers
          → IsRead bytes from (next_line bytes at) now rows columns
      passed_over e now same = record {
        begins = line_begins;
        sound = ap (filter_map (row_fault bytes (width_of bytes))) (rows_without starts from h e) ∙ before.sound;
        read = same ∙ before.read ∙ ap (flat_map (row_at bytes)) (sym (rows_without starts from h e));
        counted = before.counted ∙ ap length (sym (rows_without starts from h e));
        width = record { known = width.known; none = λ z. rows_without starts 0 (omega arith) e ∙ width.none z };
      }

      -- a row
      pub added : has_fields bytes at ≡ true → row_fault bytes (width_of bytes) at ≡ None → (now : List ℤ) (wide : ℕ)
          → now ≡ numbers ++ row_at bytes at → wide ≡ width_of bytes → (wide ≡ 0 → ⊥)
          → IsRead bytes from (next_line bytes at) now (rows + 1) wide
      added e sound now wide same is some = record {
        begins = line_begins;
        sound = ap (filter_map (row_fault bytes (width_of bytes))) (rows_with starts from h e)
            ∙ filter_map-append (row_fault bytes (width_of bytes)) (rows_between bytes from at) (at ∷ [])
            ∙ ap₂ (λ (fs : List GridFault) o. fs ++ cons_option o []) before.sound sound;
        read = same ∙ ap₂ (λ (xs : List ℤ) ys. xs ++ ys) before.read (sym (append-nil (row_at bytes at)))
            ∙ sym (flat_map-append (row_at bytes) (rows_between bytes from at) (at ∷ []))
            ∙ ap (flat_map (row_at bytes)) (sym (rows_with starts from h e));
        counted = ap (λ n. n + 1) before.counted ∙ sym (length_push (rows_between bytes from at) at)
            ∙ ap length (sym (rows_with starts from h e));
        width = record { known = λ _. is; none = λ z. absurd (some z) };
      }

  pub refused : begins_line bytes at ≡ true → has_fields bytes at ≡ true → (f : GridFault) → row_fault bytes (width_of bytes) at ≡ Some f
      → fault_from bytes at ≡ Some f
  refused starts e f is =
      let none : at - at ≡ 0 = omega arith in
      let first : rows_between bytes at (next_line bytes at) ≡ at ∷ [] = rows_with starts at (omega arith) e
      ∙ ap (λ n. filter (has_fields bytes) (filter (begins_line bytes) (range_with_len at n)) ++ at ∷ []) none in
      ap (λ (places : List ℕ). slice_get (filter_map (row_fault bytes (width_of bytes)) places) 0)
      (rows_split bytes at (next_line bytes at) (length bytes) (omega (arith, later)) (omega arith)
      ∙ ap (λ places. places ++ rows_between bytes (next_line bytes at) (length bytes)) first)
      ∙ ap (λ o. slice_get
      (cons_option o (filter_map (row_fault bytes (width_of bytes)) (rows_between bytes (next_line bytes at) (length bytes)))) 0) is
