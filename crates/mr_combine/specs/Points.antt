-- The number of points with the sum of each coordinate, where a shorter point ends in zeros.
use Rattle.std.specs.Prelude.{◌≡◌, ℕ, ◌+◌, ◌<◌, ◌≤◌, max, Bool, true, false, not, nat_lt, ◌||◌, ◌&&◌, if◌then◌else◌, List, [], ◌∷◌, fold}
use Rattle.std.specs.Prelude.{length, map, get_or, ℤ, pos, nat_abs, nat_le, Option, Some, None}
use Rattle.std.specs.Option.{is_none}
use Rattle.std.specs.List.{list_any, list_all, range_with_len}
use Rattle.std.proofs.Common.{refl, sym, ap, ◌∙◌, arith}
use Rattle.std.proofs.lemmas.List.{ext_get_or, get_or_past, length-map}
use Rattle.std.proofs.lemmas.Simd.{map-map}
use Rattle.std.proofs.lemmas.List.FromFn.{get_or-map-range_with_len, length-map-range_with_len}
use mathlib.Core.Bool.{true≢false}
use Rattle.mr_defs.specs.Commutative.{IsCommutative}
use Rattle.mr_defs.specs.Emission.{Answer}
use Rattle.mr_defs.specs.Folded.{limit, total, magnitude, coordinates, dimension, vecsum_folded}
use Rattle.mr_combine.specs.Bounded.{within}
use Rattle.mr_combine.specs.Cells.{IsTotal, total_is_fold}
use Rattle.mr_combine.specs.Counts.{count_fits, count_merged, count_number, count_commutative, count_stays_over, counts_join, length_total}
use Rattle.mr_combine.specs.Fold.{outcome, IsFoldOf}
use Rattle.mr_combine.specs.Zipped.{zip_longest, zip_none, zip_commutative, zip_stays, zip_at, length-zip, zip_map}
use Rattle.mr_combine.specs.Paired.{side_by_side, side_commutative, either_over, side_stays}
use Rattle.mr_combine.specs.Sums.{Summed, summed, sum_fits, sum_unit, sum_merged, sum_number, sum_commutative, sum_stays_over, sums_join}
use Rattle.mr_combine.specs.Sums.{sum_total}
use Rattle.std.proofs.Math.IntN.{+ℤ_idl, +ℤ_idr}
use Rattle.std.proofs.Math.ListN.{get_or-map}
use borrow.Author.Tests.{ltb-true, ltb-false}

-- a cell: the number of points, and of each coordinate the sum and the sum of the magnitudes; each is None where it passed the limit
abbrev pub PointsSeen : Type 0
PointsSeen = Option ℕ × List (Option Summed)

abbrev pub vecsum_unit : List ℤ → PointsSeen
vecsum_unit p = (within count_fits 1, map (sum_unit limit) p)

abbrev pub vecsum_merged : PointsSeen → PointsSeen → PointsSeen
vecsum_merged a b = side_by_side count_merged (zip_longest (sum_merged limit)) a b

abbrev pub vecsum_over : PointsSeen → Bool
vecsum_over c = either_over is_none (list_any is_none) c

abbrev pub vecsum_answer : PointsSeen → Answer
vecsum_answer c = count_number c.0 ∷ map sum_number c.1

pub vecsum_commutative : IsCommutative vecsum_merged
vecsum_commutative = side_commutative count_commutative (zip_commutative (sum_merged limit) (sum_commutative limit))

pub vecsum_stays_over : (a b : PointsSeen) → vecsum_over a ≡ true → vecsum_over (vecsum_merged a b) ≡ true
vecsum_stays_over a b h =
    side_stays count_merged (zip_longest (sum_merged limit)) is_none (list_any is_none) count_stays_over
    (zip_stays (sum_merged limit) is_none (sum_stays_over limit)) a b h

-- without limits
abbrev one_summed : ℤ → Summed
one_summed v = (v, nat_abs v)

abbrev all_summed : List ℤ → Summed
all_summed vs = (total vs, magnitude vs)

abbrev sums_at : List (List ℤ) → ℕ → Summed
sums_at points j = all_summed (coordinates points j)

abbrev sums_of : List (List ℤ) → List Summed
sums_of points = map (sums_at points) (range_with_len 0 (dimension points))

abbrev nothing : Summed
nothing = (pos 0, 0)

nothing_right : (a : Summed) → summed a nothing ≡ a
nothing_right a = λ i. (+ℤ_idr a.0 i, no_more a.1 i)
  where
    no_more : (m : ℕ) → m + 0 ≡ m
    no_more m = omega arith

nothing_left : (a : Summed) → summed nothing a ≡ a
nothing_left a = λ i. (+ℤ_idl a.0 i, no_more a.1 i)
  where
    no_more : (m : ℕ) → 0 + m ≡ m
    no_more m = omega arith

dimension_from : (n : ℕ) (points : List (List ℤ)) → fold (λ n p. max n (length p)) n points ≡ max n (dimension points)
dimension_from n [] = omega arith
dimension_from n (p ∷ ps) = omega (arith, dimension_from (max n (length p)) ps, dimension_from (max 0 (length p)) ps)

dimension_next : (p : List ℤ) (ps : List (List ℤ)) → dimension (p ∷ ps) ≡ max (length p) (dimension ps)
dimension_next p ps = omega (arith, dimension_from (max 0 (length p)) ps)

-- past the end of each point there is nothing
past_all : (points : List (List ℤ)) (j : ℕ) → dimension points ≤ j → sums_at points j ≡ nothing
past_all [] j h = refl
past_all (p ∷ ps) j h =
    sum_total.more (get_or p j (pos 0)) (coordinates ps j)
    ∙ (λ i. summed (one_summed (get_or_past p j (pos 0) (omega (arith, h, dimension_next p ps)) i))
    (past_all ps j (omega (arith, h, dimension_next p ps)) i))

sum_at : (points : List (List ℤ)) (j : ℕ) → get_or (sums_of points) j nothing ≡ sums_at points j
sum_at points j = by (nat_lt j (dimension points)) refl
  where
    by : (b : Bool) → nat_lt j (dimension points) ≡ b → get_or (sums_of points) j nothing ≡ sums_at points j
    by true e = get_or-map-range_with_len (sums_at points) 0 (dimension points) j j nothing (ltb-true j (dimension points) e) (omega arith)
    by false e =
        let past : dimension points ≤ j = ltb-false j (dimension points) e in
        get_or_past (sums_of points) j nothing (omega (arith, length-map-range_with_len (sums_at points) 0 (dimension points)))
        ∙ sym (past_all points j past)

sums_next : (p : List ℤ) (ps : List (List ℤ)) → sums_of (p ∷ ps) ≡ zip_longest summed (map one_summed p) (sums_of ps)
sums_next p ps = ext_get_or nothing (sums_of (p ∷ ps)) (zip_longest summed (map one_summed p) (sums_of ps)) long each
  where
    long : length (sums_of (p ∷ ps)) ≡ length (zip_longest summed (map one_summed p) (sums_of ps))
    long =
        let here = length-map-range_with_len (sums_at (p ∷ ps)) 0 (dimension (p ∷ ps)) in
        let rest = length-map-range_with_len (sums_at ps) 0 (dimension ps) in
        omega (arith, here, rest, dimension_next p ps, length-zip summed (map one_summed p) (sums_of ps), length-map p one_summed)

    each : (j : ℕ) → j < length (sums_of (p ∷ ps))
        → get_or (sums_of (p ∷ ps)) j nothing ≡ get_or (zip_longest summed (map one_summed p) (sums_of ps)) j nothing
    each j h =
        sum_at (p ∷ ps) j
        ∙ sum_total.more (get_or p j (pos 0)) (coordinates ps j)
        ∙ (λ i. summed (sym (get_or-map one_summed p j (pos 0)) i) (sym (sum_at ps j) i))
        ∙ sym (zip_at summed nothing nothing_right nothing_left (map one_summed p) (sums_of ps) j)

abbrev points_joined : ℕ × List Summed → ℕ × List Summed → ℕ × List Summed
points_joined a b = side_by_side ◌+◌ (zip_longest summed) a b

points_total : IsTotal points_joined (λ p. (1, map one_summed p)) (λ points. (length points, sums_of points))
points_total = record {
  one = λ p. λ i. (1, zip_none summed (map one_summed p) i);
  more = λ p ps. λ i. (length_total.more p ps i, sums_next p ps i);
}

-- with limits
abbrev sum_within : Summed → Option Summed
sum_within a = within (sum_fits limit) a

abbrev points_within : ℕ × List Summed → PointsSeen
points_within c = (within count_fits c.0, map sum_within c.1)

unit_within : (p : List ℤ) → map (sum_unit limit) p ≡ map sum_within (map one_summed p)
unit_within p = sym (map-map sum_within one_summed p)

points_join : (a b : ℕ × List Summed) → vecsum_merged (points_within a) (points_within b) ≡ points_within (points_joined a b)
points_join a b = λ i. (counts_join a.0 b.0 i, zip_map summed (sum_merged limit) sum_within (sums_join limit) a.1 b.1 i)

module _ (f : ℕ → Summed) where
  abbrev all_fit : List ℕ → Bool
  all_fit js = list_all (λ j. nat_le (f j).1 limit) js

  abbrev read_all : List ℕ → List (Option Summed)
  read_all js = map sum_within (map f js)

  some_over : (js : List ℕ) → list_any is_none (read_all js) ≡ not (all_fit js)
  some_over [] = refl
  some_over (j ∷ js) = elim (nat_le (f j).1 limit) as (λ b. (is_none (if b then Some (f j) else None) || list_any is_none (read_all js))
      ≡ not (b && all_fit js)) [
        | true ↦ some_over js
        | false ↦ refl
      ]

  none_over : (js : List ℕ) → all_fit js ≡ true → map sum_number (read_all js) ≡ map (λ j. (f j).0) js
  none_over [] h = refl
  none_over (j ∷ js) h = by (nat_le (f j).1 limit) (none_over js) h
    where
      by : (b : Bool) → (all_fit js ≡ true → map sum_number (read_all js) ≡ map (λ j. (f j).0) js) → (b && all_fit js) ≡ true
          → sum_number (if b then Some (f j) else None) ∷ map sum_number (read_all js) ≡ (f j).0 ∷ map (λ j. (f j).0) js
      by true rest k = ap (λ l. (f j).0 ∷ l) (rest k)
      by false rest k = absurd (true≢false (sym k))

  answered : (n : ℕ) (js : List ℕ) (a b : Bool) → all_fit js ≡ b
      → (if a && b then Some (pos n ∷ map (λ j. (f j).0) js) else None)
      ≡ (if is_none (if a then Some n else None) || not b then None
      else Some (vecsum_answer (if a then Some n else None, read_all js)))
  answered n js true true e = ap (λ l. Some (pos n ∷ l)) (sym (none_over js e))
  answered n js true false e = refl
  answered n js false b e = refl

vecsum_outcome : (points : List (List ℤ))
    → vecsum_folded points ≡ outcome vecsum_over vecsum_answer (points_within (length points, sums_of points))
vecsum_outcome points =
    let places : List ℕ = range_with_len 0 (dimension points) in
    let cell : PointsSeen = points_within (length points, sums_of points) in
    answered (sums_at points) (length points) places (nat_le (length points) limit) (all_fit (sums_at points) places) refl
    ∙ ap (λ b. if is_none cell.0 || b then None else Some (vecsum_answer cell)) (sym (some_over (sums_at points) places))

pub vecsum_is_fold : IsFoldOf vecsum_unit vecsum_merged vecsum_over vecsum_answer vecsum_folded
vecsum_is_fold =
    total_is_fold points_joined (λ p. (1, map one_summed p)) vecsum_merged vecsum_unit points_within
    (λ p. λ i. (within count_fits 1, unit_within p i)) points_join
    (λ points. (length points, sums_of points)) points_total vecsum_over vecsum_answer vecsum_folded vecsum_outcome
