-- The places where the runs of a line begin, met one after the other.
use Rattle.std.proofs.Common.{◌≡◌, ℕ, zero, suc, ◌+◌, ◌-◌, ◌<◌, ◌≤◌, Bool, true, false, not, ◌&&◌, ◌||◌, ◌==◌, List, [], ◌∷◌, ◌++◌, length}
use Rattle.std.proofs.Common.{map, filter, filter_map, Option, refl, sym, ap, ap₂, ◌∙◌, arith, drop, get_or, inl, inr, ◌⊎◌, true≢false}
use Rattle.std.specs.List.{prefix_len, range_with_len, cons_option}
use Rattle.std.proofs.lemmas.Bool.{cases_lt, ne_eqb}
use Rattle.std.proofs.lemmas.List.{get_or-drop, length-drop, length-append}
use Rattle.std.proofs.lemmas.List.Elements.{filter-append}
use Rattle.std.proofs.lemmas.List.Sums.{prefix_len_passes, prefix_len_stops, prefix_len-le-length}
use Rattle.mr_defs.proofs.Joins.{range-append}
use Rattle.mr_defs.proofs.Places.{IsNowhere, places-next, places-none}
use Rattle.mr_items.specs.Runs.{begins}

pub negated : (b : Bool) → not b ≡ true → b ≡ false
negated true e = sym e
negated false e = refl

pub negated_not : (b : Bool) → not b ≡ false → b ≡ true
negated_not true e = refl
negated_not false e = sym e

pub or_true : (b : Bool) → (b || true) ≡ true
or_true true = refl
or_true false = refl

-- the places that pass a test, below a place
abbrev pub places_below : (ℕ → Bool) → ℕ → List ℕ
places_below p at = filter p (range_with_len 0 at)

pub less : (n : ℕ) → n - 0 ≡ n
less n = omega arith

pub places_same : (p : ℕ → Bool) (at next : ℕ) → at ≤ next → IsNowhere p at next → places_below p next ≡ places_below p at
places_same p at next h none =
    ap (places_below p) (sym (less next)) ∙ places-none p 0 at next (omega arith) h none ∙ ap (places_below p) (less at)

-- those from a place on and below another
abbrev pub places_between : (ℕ → Bool) → ℕ → ℕ → List ℕ
places_between p from to = filter p (range_with_len from (to - from))

pub between_split : (p : ℕ → Bool) (from at to : ℕ) → from ≤ at → at ≤ to
    → places_between p from to ≡ places_between p from at ++ places_between p at to
between_split p from at to h k =
    ap (λ n. filter p (range_with_len from n)) (let e : to - from ≡ (at - from) + (to - at) = omega (arith, h, k) in e)
    ∙ ap (filter p) (range-append from (at - from) (to - at))
    ∙ filter-append p (range_with_len from (at - from)) (range_with_len (from + (at - from)) (to - at))
    ∙ ap (λ n. places_between p from at ++ filter p (range_with_len n (to - at))) (let e : from + (at - from) ≡ at = omega (arith, h) in e)

pub between_more : (p : ℕ → Bool) (from at next : ℕ) → from ≤ at → at < next → p at ≡ true → IsNowhere p (at + 1) next
    → places_between p from next ≡ places_between p from at ++ at ∷ []
between_more p from at next h k is none =
    places-none p from (at + 1) next (omega (arith, h)) (omega (arith, k)) none
    ∙ places-next p from at at h (omega arith) (λ q l m. absurd (omega (arith, l, m))) is

pub places_fewer : (p : ℕ → Bool) (at next : ℕ) → at ≤ next → length (places_below p at) ≤ length (places_below p next)
places_fewer p at next h = omega (
  arith,
  ap (λ n. length (filter p (range_with_len 0 n))) (less next),
  ap (λ n. length (filter p (range_with_len 0 n))) (less at),
  ap length (between_split p 0 at next (omega arith) h),
  length-append (places_between p 0 at) (places_between p at next),
)

pub places_more : (p : ℕ → Bool) (at next : ℕ) → at < next → p at ≡ true → IsNowhere p (at + 1) next
    → places_below p next ≡ places_below p at ++ at ∷ []
places_more p at next h is none = ap (places_below p) (sym (less next)) ∙ between_more p 0 at next (omega arith) h is none
    ∙ ap (λ n. places_below p n ++ at ∷ []) (less at)

module _ (p : ℕ → Bool) (xs : List ℕ) where
  pub passes : (from k : ℕ) → from ≤ k → k < from + prefix_len p (drop from xs) → p (get_or xs k 0) ≡ true
  passes from k l m =
      let at : from + (k - from) ≡ k = omega arith in
      ap p (ap (λ i. get_or xs i 0) (sym at) ∙ sym (get_or-drop from xs (k - from) 0))
      ∙ prefix_len_passes p (drop from xs) (k - from) 0 (omega arith)

  pub stops : (from : ℕ) → from + prefix_len p (drop from xs) < length xs → p (get_or xs (from + prefix_len p (drop from xs)) 0) ≡ false
  stops from h = ap p (sym (get_or-drop from xs (prefix_len p (drop from xs)) 0))
      ∙ prefix_len_stops p (drop from xs) 0 (omega (arith, length-drop from xs))

  pub within : (from : ℕ) → from ≤ length xs → from + prefix_len p (drop from xs) ≤ length xs
  within from h = omega (arith, prefix_len-le-length p (drop from xs), length-drop from xs)

-- a run begins at a place, and where the runs of a line begin after it
module _ (p : ℕ → Bool) (xs : List ℕ) where
  begins_no_pass : (k : ℕ) → p (get_or xs k 0) ≡ false → begins p xs k ≡ false
  begins_no_pass k e = ap (λ b. b && ((k == 0) || not (p (get_or xs (k - 1) 0)))) e

  begins_behind : (k : ℕ) → 0 < k → p (get_or xs (k - 1) 0) ≡ true → begins p xs k ≡ false
  begins_behind k h e =
      ap₂ (λ a b. p (get_or xs k 0) && (a || not b)) (ne_eqb k 0 (λ z. absurd (omega arith))) e ∙ and_false (p (get_or xs k 0))
    where
      and_false : (b : Bool) → (b && false) ≡ false
      and_false true = refl
      and_false false = refl

  begins_after : (k : ℕ) → 0 < k → p (get_or xs k 0) ≡ true → p (get_or xs (k - 1) 0) ≡ false → begins p xs k ≡ true
  begins_after k h e f = ap₂ (λ a b. a && ((k == 0) || not b)) e f ∙ or_true (k == 0)

  -- past the bytes between two runs
  pub gap_nowhere : (e next : ℕ) → next ≡ e + prefix_len (λ b. not (p b)) (drop e xs) → IsNowhere (begins p xs) e next
  gap_nowhere e next is q l m = begins_no_pass q (negated (p (get_or xs q 0)) (passes (λ b. not (p b)) xs e q l (omega (arith, m, is))))

  gap_ends : (e next : ℕ) → next ≡ e + prefix_len (λ b. not (p b)) (drop e xs) → next < length xs → p (get_or xs next 0) ≡ true
  gap_ends e next is h =
      negated_not (p (get_or xs next 0)) (ap (λ k. not (p (get_or xs k 0))) is ∙ stops (λ b. not (p b)) xs e (omega (arith, h, is)))

  gap_begins : (e next : ℕ) → next ≡ e + prefix_len (λ b. not (p b)) (drop e xs) → e < next → next < length xs → begins p xs next ≡ true
  gap_begins e next is l h = begins_after next (omega arith) (gap_ends e next is h)
      (negated (p (get_or xs (next - 1) 0)) (passes (λ b. not (p b)) xs e (next - 1) (omega arith) (omega (arith, is))))

  -- the first run of a line
  pub first_begins : (next : ℕ) → next ≡ 0 + prefix_len (λ b. not (p b)) (drop 0 xs) → next < length xs → begins p xs next ≡ true
  first_begins zero is h = ap (λ b. b && true) (gap_ends 0 0 is h)
  first_begins (suc n) is h = gap_begins 0 (suc n) is (omega arith) h

  -- past a run
  pub run_nowhere : (at e : ℕ) → e ≡ at + prefix_len p (drop at xs) → IsNowhere (begins p xs) (at + 1) e
  run_nowhere at e is q l m = begins_behind q (omega (arith, l)) (passes p xs at (q - 1) (omega (arith, l)) (omega (arith, l, m, is)))

  module _ (at e next : ℕ) (runs_to : e ≡ at + prefix_len p (drop at xs))
      (gaps_to : next ≡ e + prefix_len (λ b. not (p b)) (drop e xs)) where
    -- the run after one that begins here
    pub next_begins : next < length xs → begins p xs next ≡ true
    next_begins h = gap_begins e next gaps_to (by (cases_lt e next)) h
      where
        by : (e < next) ⊎ (next ≤ e) → e < next
        by (inl l) = l
        by (inr l) =
            let same : e ≡ next = omega (arith, l, gaps_to) in
            absurd (true≢false (sym (gap_ends e next gaps_to h) ∙ ap (λ k. p (get_or xs k 0)) (sym same ∙ runs_to)
            ∙ stops p xs at (omega (arith, same, h, runs_to))))

    pub next_nowhere : IsNowhere (begins p xs) (at + 1) next
    next_nowhere q l m =
        elim (cases_lt q e) [ inl below ↦ run_nowhere at e runs_to q l below | inr above ↦ gap_nowhere e next gaps_to q above m ]

pub filter_map-map : {X Y Z : Type 0} (h : Y → Option Z) (f : X → Y) (xs : List X) → filter_map h (map f xs) ≡ filter_map (λ x. h (f x)) xs
filter_map-map h f [] = refl
filter_map-map h f (x ∷ xs) = ap (cons_option (h (f x))) (filter_map-map h f xs)
