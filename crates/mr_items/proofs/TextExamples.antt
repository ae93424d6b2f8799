-- Words, pieces and numbers, at texts that are written out.
use Rattle.std.proofs.Common.{refl, ◌≡◌, ℕ, ℤ, pos, false, codes, List, [], ◌∷◌, Some, None}
use Rattle.std.specs.Prelude.{Option, Result, Ok}
use Rattle.std.specs.Fmt.{digits}
use Rattle.mr_defs.specs.Folded.{sum_folded, one_folded}
use Rattle.mr_defs.specs.Emission.{Answer}
use Rattle.mr_defs.specs.declared.Fault.{Fault}
use Rattle.mr_defs.specs.Rounds.{one_round_of}
use Rattle.mr_defs.specs.Rows.{cells_of}
use Rattle.mr_defs.specs.Tasks.{pieces_of, emissions_of_tasks}
use Rattle.mr_items.specs.Words.{words, word_places, is_word_boundary}
use Rattle.mr_items.specs.Lines.{is_line_boundary}
use Rattle.mr_items.specs.Number.{number_of}
use Rattle.mr_items.specs.Texts.{rows_text}
use Rattle.mr_items.specs.Keys.{byte_order, all_inside}
use Rattle.mr_items.specs.WordCount.{word_count_emissions, word_count_emits}

abbrev counted_words : (List ℤ → Option Answer) → List ℕ → Result (List ℕ) (Fault (List ℕ))
counted_words folded text =
    one_round_of byte_order all_inside false folded (rows_text (λ k. k)) (word_count_emissions text)

folded_words : words (codes "Don't DON'T") ≡ codes "don't" ∷ codes "don't" ∷ []
folded_words = refl

four_words : counted_words sum_folded (codes "the cat the dog") ≡ Ok (codes "cat 1\ndog 1\nthe 2\n")
unfolding digits
four_words = refl

no_words : counted_words sum_folded (codes "") ≡ Ok (codes "")
unfolding digits
no_words = refl

two_spellings : counted_words sum_folded (codes "Don't DON'T") ≡ Ok (codes "don't 2\n")
unfolding digits
two_spellings = refl

presence_of_words : counted_words one_folded (codes "the cat the dog") ≡ Ok (codes "cat 1\ndog 1\nthe 1\n")
unfolding digits
presence_of_words = refl

pieces_of_two_words : pieces_of (is_word_boundary (codes "aa bb")) 1 5 ≡ (0, 2) ∷ (2, 3) ∷ (3, 5) ∷ []
pieces_of_two_words = refl

pairs_of_the_pieces : emissions_of_tasks (word_count_emits (codes "aa bb")) (word_places (codes "aa bb"))
    (pieces_of (is_word_boundary (codes "aa bb")) 1 5) (0 ∷ 1 ∷ 2 ∷ []) ≡ word_count_emissions (codes "aa bb")
pairs_of_the_pieces = refl

cells_of_two_pieces : cells_of byte_order all_inside
    (emissions_of_tasks (word_count_emits (codes "aa bb")) (word_places (codes "aa bb")) (pieces_of (is_word_boundary (codes "aa bb")) 1 5)
    (1 ∷ 2 ∷ [])) ≡ 1
cells_of_two_pieces = refl

cells_of_all_pieces : cells_of byte_order all_inside (word_count_emissions (codes "aa bb")) ≡ 2
cells_of_all_pieces = refl

minus_zero : number_of (codes "-0") ≡ Some (pos 0)
minus_zero = refl

leading_zeros : number_of (codes "007") ≡ Some (pos 7)
leading_zeros = refl

greatest_number : number_of (codes "9223372036854775807") ≡ Some (pos 9223372036854775807)
greatest_number = refl

number_too_large : number_of (codes "9223372036854775808") ≡ None
number_too_large = refl

number_too_small : number_of (codes "-9223372036854775808") ≡ None
number_too_small = refl

plus_sign : number_of (codes "+1") ≡ None
plus_sign = refl

empty_number : number_of [] ≡ None
empty_number = refl

pieces_of_two_lines : pieces_of (is_line_boundary (codes "a\nb")) 1 3 ≡ (0, 2) ∷ (2, 3) ∷ []
pieces_of_two_lines = refl

no_cut_at_the_end : pieces_of (is_word_boundary (codes "a bb")) 3 4 ≡ (0, 4) ∷ []
no_cut_at_the_end = refl

pieces_of_longer_lines : pieces_of (is_line_boundary (codes "\n\nab c\nd")) 2 8 ≡ (0, 2) ∷ (2, 7) ∷ (7, 8) ∷ []
pieces_of_longer_lines = refl
