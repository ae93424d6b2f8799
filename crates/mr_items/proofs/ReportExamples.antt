-- The generator, its summary and the report, at cases that are written out.
use Rattle.std.proofs.Common.{refl, ◌≡◌, ℕ, codes, List, [], ◌∷◌, length}
use Rattle.std.specs.Fmt.{digits}
use Rattle.rand_core.specs.Steps.{first_words}
use Rattle.rand_xoshiro.specs.SplitMix64.{mix_u64}
use Rattle.mr_defs.specs.Emission.{Row}
use Rattle.mr_defs.specs.Folded.{sum_folded}
use Rattle.mr_defs.specs.Rows.{rows_of}
use Rattle.mr_items.specs.Keys.{byte_order, all_inside}
use Rattle.mr_items.specs.Texts.{rows_text}
use Rattle.mr_items.specs.WordCount.{word_count_emissions}
use Rattle.mr_items.specs.Generator.{generated, summary}
use Rattle.mr_items.specs.Report.{report_text}

first_outputs : first_words mix_u64 2 0 ≡ 16294208416658607535 ∷ 7960286522194355700 ∷ []
unfolding first_words
first_outputs = refl

one_word : generated 0 1 ≡ codes "w2535\n"
unfolding generated first_words digits
one_word = refl

two_words : generated 0 2 ≡ codes "w2535\nw700\n"
unfolding generated first_words digits
two_words = refl

abbrev rows_made : List ℕ → List (Row (List ℕ))
rows_made text = rows_of byte_order all_inside sum_folded (word_count_emissions text)

abbrev summary_of : List ℕ → List ℕ
summary_of text = summary (length text) (length (rows_made text)) (rows_text (λ k. k) (rows_made text))

summary_of_one_word : summary_of (generated 0 1) ≡ codes "input 6\nrows 1\noutput 8\nmark 1462\n"
unfolding generated first_words digits
summary_of_one_word = refl

summary_of_two_words : summary_of (generated 0 2) ≡ codes "input 11\nrows 2\noutput 15\nmark 5439\n"
unfolding generated first_words digits
summary_of_two_words = refl

two_workers :
    report_text (((0 ∷ [], 1) ∷ (1 ∷ 2 ∷ [], 1) ∷ []) ∷ [])
    ≡ codes "round 1 worker 0 cells 1 tasks 0\nround 1 worker 1 cells 1 tasks 1 2\n"
unfolding digits
two_workers = refl

workers_without_tasks : report_text ((([], 0) ∷ ([], 0) ∷ []) ∷ [])
    ≡ codes "round 1 worker 0 cells 0 tasks\nround 1 worker 1 cells 0 tasks\n"
unfolding digits
workers_without_tasks = refl

two_rounds :
    report_text (((0 ∷ [], 2) ∷ []) ∷ ((0 ∷ [], 2) ∷ []) ∷ [])
    ≡ codes "round 1 worker 0 cells 2 tasks 0\nround 2 worker 0 cells 2 tasks 0\n"
unfolding digits
two_rounds = refl
