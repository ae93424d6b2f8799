-- The fault of a line with a field, by what was read of it.
use Rattle.std.proofs.Common.{◌≡◌, ℕ, zero, suc, ◌+◌, ◌-◌, ◌<◌, ◌≤◌, min, Bool, true, false, not, ◌==◌, nat_lt, cond, if◌then◌else◌, List}
use Rattle.std.proofs.Common.{[], ◌∷◌, length, map, filter, filter_map, find, take, get_or, is_none, Option, Some, None, option_map, refl}
use Rattle.std.proofs.Common.{sym, ap, ap₂, ◌∙◌, arith}
use Rattle.std.specs.List.{range_with_len}
use Rattle.std.proofs.lemmas.Bool.{ltb-true, ltb-false, lt-ltb, le-ltb}
use Rattle.std.proofs.lemmas.List.{length-map, length-take, nil_from_length}
use Rattle.mr_items.specs.Grid.{row_fault, element_of}
use Rattle.mr_items.specs.Lines.{fields, is_field_byte, line_at, without_return}
use Rattle.mr_items.specs.Runs.{begins, run_at, run_places}
use Rattle.mr_items.specs.declared.GridFault.TheVariants as fault
use Rattle.mr_grid.specs.Reading.{line_fault}
use Rattle.mr_grid.specs.Fields.{stray_of, elements_in}

-- what is found in a filtered range lies in the range
found_below : (q p : ℕ → Bool) (a n s : ℕ) → find q (filter p (range_with_len a n)) ≡ Some s → s < a + n
found_below q p a zero s e = absurd (cc)
found_below q p a (suc n) s e = by (p a) e (found_below q p (a + 1) n s)
  where
    here : (b : Bool) → cond b (Some a) (find q (filter p (range_with_len (a + 1) n))) ≡ Some s
        → (find q (filter p (range_with_len (a + 1) n)) ≡ Some s → s < a + 1 + n) → s < a + suc n
    here true e later = let same : a ≡ s = cc in omega arith
    here false e later = let below : s < a + 1 + n = later e in omega arith

    by : (t : Bool) → find q (cond t (a ∷ filter p (range_with_len (a + 1) n)) (filter p (range_with_len (a + 1) n))) ≡ Some s
        → (find q (filter p (range_with_len (a + 1) n)) ≡ Some s → s < a + 1 + n) → s < a + suc n
    by true e later = here (q a) e later
    by false e later = let below : s < a + 1 + n = later e in omega arith

pub stray_below : (line : List ℕ) (s : ℕ) → stray_of line ≡ Some s → s < length line
stray_below line s e = omega
    (arith, found_below (λ field. is_none (element_of (run_at is_field_byte line field))) (begins is_field_byte line) 0 (length line) s e)

pub without_return_short : (line : List ℕ) → length (without_return line) ≤ length line
without_return_short line = by (get_or line (length line - 1) 0 == 13)
  where
    by : (t : Bool) → length (if t then take (length line - 1) line else line) ≤ length line
    by true = omega (arith, length-take (length line - 1) line)
    by false = omega arith

pub elements_none : (line : List ℕ) → length (run_places is_field_byte line) ≡ 0 → elements_in line ≡ []
elements_none line e =
    ap (λ places. filter_map element_of (map (run_at is_field_byte line) places)) (nil_from_length (run_places is_field_byte line) e)

module _ (bytes : List ℕ) (at : ℕ) where
  abbrev count : ℕ
  count = length (fields (line_at bytes at))

  abbrev line : List ℕ
  line = without_return (line_at bytes at)

  pub count_is : length (run_places is_field_byte line) ≡ count
  count_is = sym (length-map (run_places is_field_byte line) (run_at is_field_byte line))

  pub line_fault-is : (n columns width : ℕ) (stray : Option ℕ) → n ≡ min count 1025 → (n ≤ 1024 → stray ≡ stray_of line)
      → (n ≤ 1024 → columns ≡ width) → line_fault at n stray columns ≡ row_fault bytes width at
  line_fault-is n columns width stray is found wide = by (nat_lt 1024 count) refl
    where
      joined : (o : Option ℕ)
          → option_map (λ field. fault.Number (at + field)) o ≡ option_map fault.Number (option_map (λ field. at + field) o)
      joined None = refl
      joined (Some s) = refl

      by : (t : Bool) → nat_lt 1024 count ≡ t
          → line_fault at n stray columns
          ≡ (if t then Some (fault.Wide at)
          else (if not (count == width) then Some (fault.Ragged at)
          else option_map fault.Number (option_map (λ field. at + field) (stray_of line))))
      by true e = ap (λ b. if b then Some (fault.Wide at)
          else (if not (n == columns) then Some (fault.Ragged at) else option_map (λ field. fault.Number (at + field)) stray))
          (lt-ltb 1024 n (omega (arith, is, ltb-true 1024 count e)))
      by false e =
          let few : n ≤ 1024 = omega (arith, is, ltb-false 1024 count e) in
          let same : n ≡ count = omega (arith, is, ltb-false 1024 count e) in
          ap (λ b. if b then Some (fault.Wide at)
          else (if not (n == columns) then Some (fault.Ragged at) else option_map (λ field. fault.Number (at + field)) stray))
          (le-ltb 1024 n few)
          ∙ ap₂ (λ k w. if not (k == w) then Some (fault.Ragged at) else option_map (λ field. fault.Number (at + field)) stray) same
          (wide few)
          ∙ ap (λ o. if not (count == width) then Some (fault.Ragged at) else option_map (λ field. fault.Number (at + field)) o) (found few)
          ∙ ap (λ o. if not (count == width) then Some (fault.Ragged at) else o) (joined (stray_of line))

  -- a row is not wide
  pub sound_few : (width : ℕ) → row_fault bytes width at ≡ None → count ≤ 1024
  sound_few width e = by (nat_lt 1024 count) refl e
    where
      by : (t : Bool) → nat_lt 1024 count ≡ t
          → (if t then Some (fault.Wide at)
          else (if not (count == width) then Some (fault.Ragged at)
          else option_map fault.Number (option_map (λ field. at + field) (stray_of line)))) ≡ None → count ≤ 1024
      by true k e = absurd (cc)
      by false k e = ltb-false 1024 count k
