-- Lines with a key and a value, indexes and patterns, at texts that are written out.
use Rattle.std.proofs.Common.{refl, ◌≡◌, ℕ, ℤ, negsuc, true, false, codes, List, [], ◌∷◌, ◌++◌, Some, None}
use Rattle.std.specs.Prelude.{Result, Ok, Err, decimal}
use Rattle.std.specs.Fmt.{digits}
use Rattle.std.specs.Ordering.{nat_cmp}
use Rattle.mr_defs.specs.Emission.{Emission}
use Rattle.mr_defs.specs.declared.Fault.{Fault}
use Rattle.mr_defs.specs.declared.Fault.TheVariants as fault
use Rattle.mr_defs.specs.Folded.{sum_folded, count_folded, median_folded, list_folded, distinct_folded, once_folded}
use Rattle.mr_defs.specs.Rounds.{one_round_of}
use Rattle.mr_items.specs.Keys.{byte_order, all_inside, below}
use Rattle.mr_items.specs.Texts.{rows_text}
use Rattle.mr_items.specs.Lines.{line_places, line_at, fields}
use Rattle.mr_items.specs.Number.{number_of, key_of}
use Rattle.mr_items.specs.FoldLines.{fold_lines_emissions, bytes_key, number_key}
use Rattle.mr_items.specs.InvertedIndex.{inverted_index_emissions}
use Rattle.mr_items.specs.StringMatch.{string_match_emissions}

-- the same in the array common to all workers
abbrev common_text : List (Emission ℕ ℤ) → Result (List ℕ) (Fault ℕ)
common_text es = one_round_of nat_cmp (below 16) true once_folded (rows_text decimal) es

sums_by_name :
    one_round_of byte_order all_inside false sum_folded (rows_text (λ k. k)) (fold_lines_emissions bytes_key (codes "a 5\nb -2\na -5\n"))
    ≡ Ok (codes "a 0\nb -2\n")
unfolding digits
sums_by_name = refl

sum_over :
    one_round_of byte_order all_inside false sum_folded (rows_text (λ k. k))
    (fold_lines_emissions bytes_key (codes "a 9223372036854775807\na -1\n"))
    ≡ Err (fault.Over (codes "a"))
sum_over = refl

greatest_sum :
    one_round_of byte_order all_inside false sum_folded (rows_text (λ k. k))
    (fold_lines_emissions bytes_key (codes "a 9223372036854775807\n"))
    ≡ Ok (codes "a 9223372036854775807\n")
unfolding digits
greatest_sum = refl

last_key_inside :
    one_round_of nat_cmp (below 16) false sum_folded (rows_text decimal) (fold_lines_emissions number_key (codes "15 4\n"))
    ≡ Ok (codes "15 4\n")
unfolding digits
last_key_inside = refl

least_key_outside :
    one_round_of nat_cmp (below 16) false sum_folded (rows_text decimal) (fold_lines_emissions number_key (codes "40 1\n16 1\n"))
    ≡ Err (fault.Outside 16)
least_key_outside = refl

first_line_without_form :
    one_round_of byte_order all_inside false sum_folded (rows_text (λ k. k)) (fold_lines_emissions bytes_key (codes "a 1\nb x\nc\n"))
    ≡ Err (fault.Malformed 4)
first_line_without_form = refl

lower_of_two_middles :
    one_round_of byte_order all_inside false median_folded (rows_text (λ k. k))
    (fold_lines_emissions bytes_key (codes "k 9\nk 1\nk 5\nk 3\n"))
    ≡ Ok (codes "k 3\n")
unfolding digits
lower_of_two_middles = refl

returns_at_line_ends :
    one_round_of byte_order all_inside false sum_folded (rows_text (λ k. k))
    (fold_lines_emissions bytes_key (codes "a 1" ++ (13 ∷ 10 ∷ 13 ∷ 10 ∷ codes "b 2")))
    ≡ Ok (codes "a 1\nb 2\n")
unfolding digits
returns_at_line_ends = refl

zeros_before_a_key :
    one_round_of nat_cmp (below 16) false sum_folded (rows_text decimal) (fold_lines_emissions number_key (codes "007 1\n7 2\n"))
    ≡ Ok (codes "7 3\n")
unfolding digits
zeros_before_a_key = refl

key_below_zero :
    one_round_of nat_cmp (below 16) false sum_folded (rows_text decimal) (fold_lines_emissions number_key (codes "-1 5\n"))
    ≡ Err (fault.Malformed 0)
key_below_zero = refl

malformed_before_outside :
    one_round_of nat_cmp (below 16) false sum_folded (rows_text decimal) (fold_lines_emissions number_key (codes "40 1\nx\n"))
    ≡ Err (fault.Malformed 5)
malformed_before_outside = refl

places_of_words :
    one_round_of byte_order all_inside false distinct_folded (rows_text (λ k. k)) (inverted_index_emissions (codes "b a\na a\n"))
    ≡ Ok (codes "a 0 4\nb 0\n")
unfolding digits
places_of_words = refl

places_with_repeats :
    one_round_of byte_order all_inside false list_folded (rows_text (λ k. k)) (inverted_index_emissions (codes "b a\na a\n"))
    ≡ Ok (codes "a 0 4 4\nb 0\n")
unfolding digits
places_with_repeats = refl

lines_of_patterns :
    one_round_of nat_cmp (below 16) false count_folded (rows_text decimal)
    (string_match_emissions (codes "ab" ∷ codes "zz" ∷ codes "b" ∷ []) (codes "abab\ncab\nb\n"))
    ≡ Ok (codes "0 2\n2 3\n")
unfolding digits
lines_of_patterns = refl

pattern_twice_in_a_line :
    one_round_of nat_cmp (below 16) false count_folded (rows_text decimal)
    (string_match_emissions (codes "ab" ∷ codes "zz" ∷ codes "b" ∷ []) (codes "ab ab\nzz"))
    ≡ Ok (codes "0 1\n1 1\n2 1\n")
unfolding digits
pattern_twice_in_a_line = refl

key_in_two_lines : common_text (fold_lines_emissions number_key (codes "3 7\n3 7\n")) ≡ Err (fault.Twice 3)
key_in_two_lines = refl

outside_before_twice : common_text (fold_lines_emissions number_key (codes "3 7\n3 7\n99 1\n")) ≡ Err (fault.Outside 99)
outside_before_twice = refl

rows_of_the_common_array : common_text (fold_lines_emissions number_key (codes "3 7\n5 -1\n4 0\n")) ≡ Ok (codes "3 7\n4 0\n5 -1\n")
unfolding digits
rows_of_the_common_array = refl

spaces_and_tabs : fields (codes " a\t5  \r") ≡ codes "a" ∷ codes "5" ∷ []
spaces_and_tabs = refl

one_return_is_dropped : fields (codes "a\r\r") ≡ codes "a\r" ∷ []
one_return_is_dropped = refl

only_a_return : fields (codes "\r") ≡ []
only_a_return = refl

no_field : fields (codes "") ≡ []
no_field = refl

an_empty_line : line_places (codes "a\n\nb") ≡ 0 ∷ 2 ∷ 3 ∷ []
an_empty_line = refl

no_line_behind_the_last : line_places (codes "a\n") ≡ 0 ∷ []
no_line_behind_the_last = refl

no_line : line_places (codes "") ≡ []
no_line = refl

line_without_bytes : line_at (codes "a\n\nb") 2 ≡ []
line_without_bytes = refl

key_minus_zero : key_of (codes "-0") ≡ Some 0
key_minus_zero = refl

key_with_zeros : key_of (codes "007") ≡ Some 7
key_with_zeros = refl

key_minus_one : key_of (codes "-1") ≡ None
key_minus_one = refl

lone_minus : number_of (codes "-") ≡ None
lone_minus = refl

least_number : number_of (codes "-9223372036854775807") ≡ Some (negsuc 9223372036854775806)
least_number = refl
