-- The digits of a line are those of the text that goes on behind it.
use Rattle.std.proofs.Common.{◌≡◌, ℕ, zero, suc, ◌+◌, ◌-◌, ◌<◌, ◌≤◌, Bool, true, false, not, ◌==◌, if◌then◌else◌, true≢false, List, [], ◌∷◌}
use Rattle.std.proofs.Common.{length, take, drop, get_or, inl, inr, refl, sym, ap, ◌∙◌, arith}
use Rattle.std.specs.Char.{is_ascii_digit}
use Rattle.std.specs.List.{prefix_len}
use Rattle.std.proofs.lemmas.Bool.{cases_lt, eqb-true, not-false}
use Rattle.std.proofs.lemmas.List.{drop-take, get_or-drop, get_or-take, get_or_past, length-drop, length-take-le}
use Rattle.std.proofs.lemmas.List.Folds.{length-prefix_len}
use Rattle.std.proofs.lemmas.List.Sums.{prefix_len-le-length, prefix_len_is, prefix_len_passes, prefix_len_stops}
use Rattle.mr_items.specs.Lines.{line_at, without_return}
use Rattle.mr_items.specs.Runs.{run_at}
use Rattle.mr_grid.specs.Fields.{Continues}

take_front : (n m : ℕ) (xs : List ℕ) → n ≤ m → take n (take m xs) ≡ take n xs
take_front zero m xs h = refl
take_front (suc n) zero xs h = absurd (omega (arith, h))
take_front (suc n) (suc m) [] h = refl
take_front (suc n) (suc m) (x ∷ xs) h = ap (λ l. x ∷ l) (take_front n m xs (omega (arith, h)))

module _ (line rest : List ℕ) (h : Continues line rest) (from : ℕ) (inside : from ≤ length line) where
  abbrev digits : ℕ
  digits = prefix_len is_ascii_digit (drop from rest)

  within : from + digits ≤ length line
  within = elim (cases_lt (length line) (from + digits)) [
    | inr h ↦ h
    | inl past ↦
        let k = length line - from in
        let there : from + k ≡ length line = omega (arith, inside) in
        let digit = prefix_len_passes is_ascii_digit (drop from rest) k 0 (omega (arith, past, inside)) in
        let same = get_or-drop from rest k 0 ∙ ap (λ j. get_or rest j 0) there in
        absurd (true≢false (sym digit ∙ ap is_ascii_digit same ∙ h.ends))
  ]

  element : (k : ℕ) → from + k < length line → get_or (drop from line) k 0 ≡ get_or (drop from rest) k 0
  element k l =
      get_or-drop from line k 0 ∙ ap (λ xs. get_or xs (from + k) 0) (sym h.front) ∙ get_or-take (length line) rest (from + k) 0 l
      ∙ sym (get_or-drop from rest k 0)

  pub same_digits : prefix_len is_ascii_digit (drop from line) ≡ digits
  same_digits =
      prefix_len_is is_ascii_digit (drop from line) digits 0 (omega (arith, within, length-drop from line))
      (λ k l. ap is_ascii_digit (element k (omega (arith, l, within))) ∙ prefix_len_passes is_ascii_digit (drop from rest) k 0 l)
      (λ l. ap is_ascii_digit (element digits (omega (arith, l, length-drop from line)))
      ∙ prefix_len_stops is_ascii_digit (drop from rest) 0 (omega (arith, l, length-drop from line, length-drop from rest, h.within)))

  pub same_run : run_at is_ascii_digit line from ≡ run_at is_ascii_digit rest from
  same_run =
      let size : from + (length line - from) ≡ length line = omega (arith, inside) in
      let back : drop from line ≡ take (length line - from) (drop from rest) =
      ap (drop from) (sym h.front ∙ ap (λ n. take n rest) (sym size)) ∙ drop-take from (length line - from) rest in
      ap (λ n. take n (drop from line)) same_digits ∙ ap (take digits) back
      ∙ take_front digits (length line - from) (drop from rest) (omega (arith, within))

-- a line of a text, with the byte 13 at its end or without
module _ (bytes : List ℕ) (at : ℕ) where
  abbrev rest : List ℕ
  rest = drop at bytes

  abbrev whole : List ℕ
  whole = line_at bytes at

  size : length whole ≡ prefix_len (λ b. not (b == 10)) rest
  size = length-prefix_len (λ b. not (b == 10)) rest

  front : take (length whole) rest ≡ whole
  front = ap (λ n. take n rest) size

  no_digit : (b c : ℕ) → (b == c) ≡ true → is_ascii_digit c ≡ false → is_ascii_digit b ≡ false
  no_digit b c e h = ap is_ascii_digit (eqb-true b c e) ∙ h

  behind : is_ascii_digit (get_or rest (length whole) 0) ≡ false
  behind = elim (cases_lt (length whole) (length rest)) [
    | inl l ↦
        let stop = prefix_len_stops (λ b. not (b == 10)) rest 0 (omega (arith, l, size)) in
        no_digit (get_or rest (length whole) 0) 10 (ap (λ n. get_or rest n 0 == 10) size ∙ not-false _ stop) refl
    | inr past ↦ ap is_ascii_digit (get_or_past rest (length whole) 0 past)
  ]

  pub goes_on : Continues (without_return whole) rest
  goes_on = by (get_or whole (length whole - 1) 0 == 13) refl
    where
      most : length whole ≤ length rest
      most = omega (arith, size, prefix_len-le-length (λ b. not (b == 10)) rest)

      shorter : get_or whole (length whole - 1) 0 ≡ 13 → 0 < length whole
      shorter e = elim (cases_lt 0 (length whole)) [
        | inl l ↦ l
        | inr none ↦ let nothing : get_or whole (length whole - 1) 0 ≡ 0 = get_or_past whole (length whole - 1) 0 (omega (arith, none)) in
            absurd (omega (arith, e, nothing))
      ]

      by : (t : Bool) → (get_or whole (length whole - 1) 0 == 13) ≡ t → Continues (if t then take (length whole - 1) whole else whole) rest
      by false e = record { within = most; front = front; ends = behind }
      by true e =
          let last = eqb-true (get_or whole (length whole - 1) 0) 13 e in
          let some = shorter last in
          let n = length whole - 1 in
          let short : length (take n whole) ≡ n = length-take-le n whole (omega arith) in
          let cut : take n rest ≡ take n whole = sym (take_front n (length whole) rest (omega arith)) ∙ ap (take n) front in
          record {
            within = omega (arith, short, most);
            front = ap (λ k. take k rest) short ∙ cut;
            ends = ap (λ k. is_ascii_digit (get_or rest k 0)) short
                ∙ ap is_ascii_digit (sym (get_or-take (length whole) rest n 0 (omega (arith, some))) ∙ ap (λ l. get_or l n 0) front ∙ last);
          }
