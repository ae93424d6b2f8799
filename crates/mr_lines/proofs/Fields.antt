-- The fields of a line, by their edges, and what they emit.
use Rattle.std.proofs.Common.{◌≡◌, ◌≢◌, ℕ, ℤ, ◌+◌, ◌-◌, ◌*◌, ◌/◌, ◌<◌, ◌≤◌, List, [], ◌∷◌, length, map, take, get_or, Option, Some, None}
use Rattle.std.proofs.Common.{refl, sym, ◌∙◌, ap, ap₂, arith}
use Rattle.std.specs.Prelude.{slice_range, option_and_then, option_map}
use Rattle.std.specs.Option.{option_map_or}
use Rattle.std.proofs.lemmas.List.{length-map}
use Rattle.mr_defs.specs.Emission.{Pair, Malformed}
use Rattle.mr_items.specs.FoldLines.{fields_emit}
use Rattle.mr_items.specs.Lines.{is_field_byte}
use Rattle.mr_items.specs.Number.{number_of}
use Rattle.mr_items.specs.Runs.{run_at, run_places, runs}
use Rattle.mr_kernels.specs.Edges.{run_edges}
use Rattle.mr_text.proofs.Pairs as pairs
use Rattle.mr_text.proofs.Pairs.{number, start_is, end_is, start_below}
use Rattle.mr_text.proofs.Stretches.{length-stretch, run_inside, run_is}

-- a list of two elements
two : {X : Type 0} (xs : List X) (d : X) → length xs ≡ 2 → xs ≡ get_or xs 0 d ∷ get_or xs 1 d ∷ []
two [] d e = absurd (omega (arith, e))
two (x ∷ []) d e = absurd (omega (arith, e))
two (x ∷ y ∷ []) d e = refl
two (x ∷ y ∷ z ∷ xs) d e = absurd (omega (arith, e))

empty : {X : Type 0} (xs : List X) → length xs ≡ 0 → xs ≡ []
empty [] e = refl
empty (x ∷ xs) e = absurd (omega (arith, e))

module _ (text : List ℕ) (from to : ℕ) (order : from ≤ to) (inside : to ≤ length text) (es : List ℕ) (count : ℕ) (room : count ≤ length es)
    (are : take count es ≡ run_edges is_field_byte (slice_range text from to)) where
  abbrev xs : List ℕ
  xs = slice_range text from to

  abbrev places : List ℕ
  places = run_places is_field_byte xs

  how_many : count / 2 ≡ length places
  how_many = number is_field_byte xs es count room are

  pub whole : count ≡ 2 * length places
  whole = pairs.whole is_field_byte xs es count room are

  abbrev field : ℕ → List ℕ
  field i = slice_range text (from + get_or es (2 * i) 0) (from + get_or es (2 * i + 1) 0)

  module _ (i : ℕ) (below : i < length places) where
    p_inside : get_or places i 0 ≤ to - from
    p_inside = let before = start_below is_field_byte xs es count room are i below in
        let size = length-stretch text from to order inside in omega (arith, before, size)

    pub field_order : get_or es (2 * i) 0 ≤ get_or es (2 * i + 1) 0
    field_order =
        let start = start_is is_field_byte xs es count room are i below in
        let end = end_is is_field_byte xs es count room are i below in
        omega (arith, start, end)

    pub field_inside : from + get_or es (2 * i + 1) 0 ≤ to
    field_inside =
        let end = end_is is_field_byte xs es count room are i below in
        let within = run_inside text from to order inside is_field_byte (get_or places i 0) p_inside in
        omega (arith, end, within, order)

    field_is : run_at is_field_byte xs (get_or places i 0) ≡ field i
    field_is =
        sym (run_is text from to order inside is_field_byte (get_or places i 0) p_inside)
        ∙ ap₂ (λ a b. slice_range text (from + a) (from + b)) (sym (start_is is_field_byte xs es count room are i below))
        (sym (end_is is_field_byte xs es count room are i below))

  pub no_field : count ≡ 0 → runs is_field_byte xs ≡ []
  no_field e = ap (map (run_at is_field_byte xs)) (empty places (omega (arith, whole, e)))

  pub two_fields : count ≡ 4 → runs is_field_byte xs ≡ field 0 ∷ field 1 ∷ []
  two_fields e =
      let pair : length places ≡ 2 = omega (arith, whole, e) in
      ap (map (run_at is_field_byte xs)) (two places 0 pair)
      ∙ ap₂ (λ a b. a ∷ b ∷ []) (field_is 0 (omega (arith, pair))) (field_is 1 (omega (arith, pair)))

  pub other_fields : {K : Type 0} (key : List ℕ → Option K) (place : ℕ) → 0 < count → count ≢ 4
      → fields_emit key place (runs is_field_byte xs) ≡ Malformed place ∷ []
  other_fields key place some not_four = go (runs is_field_byte xs) (λ e. not_none (size e)) (λ e. not_two (size e))
    where
      size : {n : ℕ} → length (runs is_field_byte xs) ≡ n → length places ≡ n
      size e = sym (length-map places (run_at is_field_byte xs)) ∙ e

      not_none : length places ≡ 0 → ⊥
      not_none e = omega (arith, whole, e, some)

      not_two : length places ≡ 2 → ⊥
      not_two e = not_four (omega (arith, whole, e))

      go : (fs : List (List ℕ)) → (length fs ≡ 0 → ⊥) → (length fs ≡ 2 → ⊥) → fields_emit key place fs ≡ Malformed place ∷ []
      go [] none pair = absurd (none refl)
      go (a ∷ []) none pair = refl
      go (a ∷ b ∷ []) none pair = absurd (pair refl)
      go (a ∷ b ∷ c ∷ fs) none pair = refl

-- what two fields emit
module _ {K : Type 0} (key : List ℕ → Option K) (place : ℕ) (a b : List ℕ) where
  pub no_value : number_of b ≡ None → fields_emit key place (a ∷ b ∷ []) ≡ Malformed place ∷ []
  no_value e = ap (λ n. option_map_or (λ p. p ∷ []) (option_and_then (λ k. option_map (λ v. Pair k v) n) (key a)) (Malformed place ∷ [])) e
      ∙ go (key a)
    where
      go : (o : Option K) → option_map_or (λ p. p ∷ []) (option_and_then (λ k. option_map (λ (v : ℤ). Pair k v) None) o)
          (Malformed place ∷ []) ≡ Malformed place ∷ []
      go None = refl
      go (Some k) = refl

  pub no_key : key a ≡ None → fields_emit key place (a ∷ b ∷ []) ≡ Malformed place ∷ []
  no_key e =
      ap (λ o. option_map_or (λ p. p ∷ []) (option_and_then (λ k. option_map (λ v. Pair k v) (number_of b)) o) (Malformed place ∷ [])) e

  pub a_pair : (k : K) (v : ℤ) → key a ≡ Some k → number_of b ≡ Some v → fields_emit key place (a ∷ b ∷ []) ≡ Pair k v ∷ []
  a_pair k v e f =
      ap₂ (λ o n. option_map_or (λ p. p ∷ []) (option_and_then (λ j. option_map (λ w. Pair j w) n) o) (Malformed place ∷ [])) e f
