-- What the values of a key fold to, for each combiner, where there is a value. None says that they are over.
use Rattle.std.specs.Prelude.{ℕ, ◌-◌, ◌/◌, max, ℤ, pos, ◌+ℤ◌, nat_abs, nat_le, ◌&&◌, if◌then◌else◌, List, [], ◌∷◌, ◌++◌, length, map, fold}
use Rattle.std.specs.Prelude.{sum_by, get_or, Option, Some, None, option_map, option_and_then, bit_and, bit_or, bit_xor}
use Rattle.std.specs.List.{reduce, list_all, range_with_len}
use Rattle.std.specs.declared.cmp.Ordering.{Ordering}
use Rattle.std.specs.Ordering.{int_cmp, is_gt}
use Rattle.std.specs.Int.{int_min, int_max, cast_signed, cast_unsigned, w64}
use Rattle.mr_defs.specs.Emission.{Answer}
use Rattle.mr_defs.specs.Keyed.{ascending}

-- the greatest magnitude of a value, and of what a fold counts or adds up
abbrev pub limit : ℕ
limit = 9223372036854775807

-- the sum, and the sum of the magnitudes
abbrev pub total : List ℤ → ℤ
total vs = fold ◌+ℤ◌ (pos 0) vs

abbrev pub magnitude : List ℤ → ℕ
magnitude vs = sum_by nat_abs vs

-- the sum, where the magnitudes add up to no more than this
abbrev pub sum_up_to : ℕ → List ℤ → Option Answer
sum_up_to most vs = if nat_le (magnitude vs) most then Some (total vs ∷ []) else None

abbrev pub sum_folded : List ℤ → Option Answer
sum_folded vs = sum_up_to limit vs

-- the least value; and the greatest
abbrev pub min_folded : List ℤ → Option Answer
min_folded vs = option_map (λ v. v ∷ []) (reduce int_min vs)

abbrev pub max_folded : List ℤ → Option Answer
max_folded vs = option_map (λ v. v ∷ []) (reduce int_max vs)

-- 1, whatever the values are; and how many they are
abbrev pub one_folded : List ℤ → Option Answer
one_folded vs = Some (pos 1 ∷ [])

abbrev pub count_folded : List ℤ → Option Answer
count_folded vs = if nat_le (length vs) limit then Some (pos (length vs) ∷ []) else None

-- the number whose 64 bits in two's complement are those of all values, joined
abbrev pub bits_folded : (ℕ → ℕ → ℕ) → List ℤ → Option Answer
bits_folded op vs = option_map (λ n. cast_signed w64 n ∷ []) (reduce op (map (cast_unsigned w64) vs))

abbrev pub and_folded : List ℤ → Option Answer
and_folded vs = bits_folded bit_and vs

abbrev pub or_folded : List ℤ → Option Answer
or_folded vs = bits_folded bit_or vs

abbrev pub xor_folded : List ℤ → Option Answer
xor_folded vs = bits_folded bit_xor vs

-- the answer of the first, then that of the second
abbrev pub both_folded : (List ℤ → Option Answer) → (List ℤ → Option Answer) → List ℤ → Option Answer
both_folded f g vs = option_and_then (λ a. option_map (λ b. a ++ b) (g vs)) (f vs)

-- the least and the greatest; the sum and the number
abbrev pub minmax_folded : List ℤ → Option Answer
minmax_folded vs = both_folded min_folded max_folded vs

abbrev pub sumcount_folded : List ℤ → Option Answer
sumcount_folded vs = both_folded sum_folded count_folded vs

-- the coordinates at place j of all points, where a shorter point ends in zeros; and the length of the longest
abbrev pub coordinates : List (List ℤ) → ℕ → List ℤ
coordinates points j = map (λ p. get_or p j (pos 0)) points

abbrev pub dimension : List (List ℤ) → ℕ
dimension points = fold (λ n p. max n (length p)) 0 points

-- the number of points, then the sum of each coordinate
abbrev pub vecsum_folded : List (List ℤ) → Option Answer
vecsum_folded points =
    let places = range_with_len 0 (dimension points) in
    if nat_le (length points) limit && list_all (λ j. nat_le (magnitude (coordinates points j)) limit) places
    then Some (pos (length points) ∷ map (λ j. total (coordinates points j)) places) else None

-- a value put into an ascending list, behind those that are less
abbrev pub put_in_order : {A : Type 0} → (A → A → Ordering) → List A → A → List A
put_in_order R [] v = v ∷ []
put_in_order R (x ∷ xs) v = if is_gt (R v x) then x ∷ put_in_order R xs v else v ∷ x ∷ xs

-- all values ascending
abbrev pub in_order : List ℤ → List ℤ
in_order vs = fold (put_in_order int_cmp) [] vs

-- for a buffer: all values ascending; each different value once; the one in the middle, the lower of two
abbrev pub list_folded : List ℤ → Option Answer
list_folded vs = Some (in_order vs)

abbrev pub distinct_folded : List ℤ → Option Answer
distinct_folded vs = Some (ascending int_cmp vs)

abbrev pub median_folded : List ℤ → Option Answer
median_folded vs = Some (get_or (in_order vs) ((length vs - 1) / 2) (pos 0) ∷ [])

-- the value itself, of a key that stands in one pair
abbrev pub once_folded : List ℤ → Option Answer
once_folded vs = Some vs
