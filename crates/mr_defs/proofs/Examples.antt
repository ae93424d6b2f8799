-- Folds, faults, rows, rounds and cuts that are written out.
use Rattle.std.proofs.Common.{refl, ◌≡◌, ℕ, ℤ, pos, negsuc, true, false, codes, List, [], ◌∷◌, Some, None}
use Rattle.std.specs.Prelude.{◌==◌, ◌||◌, ◌+◌, nat_lt, Bool, if◌then◌else◌, Ok, Err}
use Rattle.std.specs.Ordering.{nat_cmp}
use Rattle.mr_defs.specs.Emission.{Emission, Pair, TooLarge, Malformed, Row}
use Rattle.mr_defs.specs.declared.Fault.TheVariants as fault
use Rattle.mr_defs.specs.Faulty.{fault_of, common_fault_of}
use Rattle.mr_defs.specs.Folded.{sum_folded, min_folded, max_folded, count_folded, and_folded, or_folded, xor_folded, minmax_folded}
use Rattle.mr_defs.specs.Folded.{sumcount_folded, vecsum_folded, list_folded, distinct_folded, median_folded, once_folded}
use Rattle.mr_defs.specs.Rows.{rows_of, cells_of}
use Rattle.mr_defs.specs.Rounds.{Next, again, ended, rounds_of, states_of}
use Rattle.mr_defs.specs.Tasks.{pieces_of, spans_of, step_of}

sum_of : sum_folded (pos 5 ∷ pos 3 ∷ []) ≡ Some (pos 8 ∷ [])
sum_of = refl

min_of : min_folded (pos 5 ∷ pos 3 ∷ []) ≡ Some (pos 3 ∷ [])
min_of = refl

max_of : max_folded (pos 5 ∷ pos 3 ∷ []) ≡ Some (pos 5 ∷ [])
max_of = refl

count_of : count_folded (pos 5 ∷ pos 3 ∷ []) ≡ Some (pos 2 ∷ [])
count_of = refl

and_of : and_folded (pos 5 ∷ pos 3 ∷ []) ≡ Some (pos 1 ∷ [])
and_of = refl

or_of : or_folded (pos 5 ∷ pos 3 ∷ []) ≡ Some (pos 7 ∷ [])
or_of = refl

xor_of : xor_folded (pos 5 ∷ pos 3 ∷ []) ≡ Some (pos 6 ∷ [])
xor_of = refl

xor_signed : xor_folded (pos 5 ∷ negsuc 0 ∷ []) ≡ Some (negsuc 5 ∷ [])
xor_signed = refl

minmax_of : minmax_folded (pos 5 ∷ pos 3 ∷ []) ≡ Some (pos 3 ∷ pos 5 ∷ [])
minmax_of = refl

sumcount_of : sumcount_folded (pos 5 ∷ pos 3 ∷ []) ≡ Some (pos 8 ∷ pos 2 ∷ [])
sumcount_of = refl

list_of : list_folded (pos 5 ∷ pos 3 ∷ []) ≡ Some (pos 3 ∷ pos 5 ∷ [])
list_of = refl

distinct_of : distinct_folded (pos 5 ∷ pos 3 ∷ pos 5 ∷ []) ≡ Some (pos 3 ∷ pos 5 ∷ [])
distinct_of = refl

median_of : median_folded (pos 9 ∷ pos 1 ∷ pos 5 ∷ pos 3 ∷ []) ≡ Some (pos 3 ∷ [])
median_of = refl

magnitudes_pass : sum_folded (pos 9223372036854775807 ∷ negsuc 0 ∷ []) ≡ None
magnitudes_pass = refl

shorter_point : vecsum_folded ((pos 1 ∷ pos 2 ∷ []) ∷ (pos 3 ∷ []) ∷ []) ≡ Some (pos 2 ∷ pos 4 ∷ pos 2 ∷ [])
shorter_point = refl

by_five : spans_of 5 12 ≡ (0, 5) ∷ (5, 10) ∷ (10, 12) ∷ []
by_five = refl

no_span : spans_of 5 0 ≡ []
no_span = refl

no_piece : pieces_of (λ p. true) 5 0 ≡ []
no_piece = refl

after_each_third : pieces_of (λ p. p == 3 || p == 6) 1 7 ≡ (0, 3) ∷ (3, 6) ∷ (6, 7) ∷ []
after_each_third = refl

raised_step : step_of 1 134217729 ≡ 129
raised_step = refl

lower_of_two : median_folded (pos 3 ∷ pos 1 ∷ []) ≡ Some (pos 1 ∷ [])
lower_of_two = refl

coordinate_over : vecsum_folded ((pos 9223372036854775807 ∷ pos 2 ∷ []) ∷ (negsuc 0 ∷ []) ∷ []) ≡ None
coordinate_over = refl

sum_over_beside_a_count : sumcount_folded (pos 9223372036854775807 ∷ pos 1 ∷ []) ≡ None
sum_over_beside_a_count = refl

and_signed : and_folded (negsuc 0 ∷ negsuc 7 ∷ []) ≡ Some (negsuc 7 ∷ [])
and_signed = refl

-- numbers below 16 are inside
abbrev few : ℕ → Bool
few k = nat_lt k 16

twice_3 : common_fault_of nat_cmp few (Pair 3 (pos 7) ∷ Pair 3 (pos 7) ∷ []) ≡ Some (fault.Twice 3)
twice_3 = refl

outside_before_twice : common_fault_of nat_cmp few (Pair 3 (pos 7) ∷ Pair 3 (pos 7) ∷ Pair 99 (pos 1) ∷ []) ≡ Some (fault.Outside 99)
outside_before_twice = refl

twice_before_over : common_fault_of nat_cmp few (TooLarge 1 ∷ Pair 3 (pos 7) ∷ Pair 3 (pos 7) ∷ []) ≡ Some (fault.Twice 3)
twice_before_over = refl

too_large_in_the_common_array : common_fault_of nat_cmp few (TooLarge 3 ∷ Pair 3 (pos 1) ∷ []) ≡ Some (fault.Over 3)
too_large_in_the_common_array = refl

least_of_pairs_and_too_large : fault_of nat_cmp few sum_folded (Pair 40 (pos 1) ∷ TooLarge 17 ∷ TooLarge 2 ∷ []) ≡ Some (fault.Outside 17)
least_of_pairs_and_too_large = refl

fold_over_before_too_large :
    fault_of nat_cmp few sum_folded (TooLarge 9 ∷ Pair 4 (pos 9223372036854775807) ∷ Pair 4 (negsuc 0) ∷ []) ≡ Some (fault.Over 4)
fold_over_before_too_large = refl

least_malformed_first :
    fault_of nat_cmp few sum_folded (TooLarge 9 ∷ Malformed 12 ∷ Pair 40 (pos 1) ∷ Malformed 5 ∷ []) ≡ Some (fault.Malformed 5)
least_malformed_first = refl

rows_of_once :
    rows_of nat_cmp few once_folded (Pair 5 (negsuc 0) ∷ Pair 3 (pos 7) ∷ Pair 4 (pos 0) ∷ [])
    ≡ (3, pos 7 ∷ []) ∷ (4, pos 0 ∷ []) ∷ (5, negsuc 0 ∷ []) ∷ []
rows_of_once = refl

cells_of_keys_inside : cells_of nat_cmp few (Pair 5 (negsuc 0) ∷ Pair 3 (pos 7) ∷ Pair 40 (pos 0) ∷ Pair 3 (pos 1) ∷ TooLarge 8 ∷ []) ≡ 2
cells_of_keys_inside = refl

-- each round emits a pair with the number of the round as key, and the rounds end with the third
abbrev count_up : ℕ → List (Row ℕ) → Next ℕ
count_up n rows = if n == 3 then ended (codes "three") else again (n + 1)

abbrev emit_one : ℕ → List (Emission ℕ ℤ)
emit_one n = Pair n (pos 1) ∷ []

three_rounds : rounds_of nat_cmp few false sum_folded emit_one count_up 5 1 ≡ Ok (codes "three")
three_rounds = refl

states_of_three_rounds : states_of nat_cmp few false sum_folded emit_one count_up 5 1 ≡ 1 ∷ 2 ∷ 3 ∷ []
states_of_three_rounds = refl

fault_of_the_second_round : rounds_of nat_cmp (λ k. k == 1) false sum_folded emit_one count_up 5 1 ≡ Err (fault.Outside 2)
fault_of_the_second_round = refl

states_up_to_the_fault : states_of nat_cmp (λ k. k == 1) false sum_folded emit_one count_up 5 1 ≡ 1 ∷ 2 ∷ []
states_up_to_the_fault = refl
