-- What the count of the words of a generated text comes to.
use Rattle.std.specs.Prelude.{ℕ, List, length}
use Rattle.mr_defs.specs.Emission.{Row}
use Rattle.mr_items.specs.Generator.{summary}
use Rattle.mr_items.specs.Texts.{rows_text}
use Rattle.mr_items.specs.WordCount.{word_count_emits}
use Rattle.mr_jobfile.specs.Values.{SeenJob}
use Rattle.mr_jobs.specs.Ending.{Ending}
use Rattle.mr_jobs.specs.Meaning.{Meaning, byte_text, ending_of}
use Rattle.mr_jobs.specs.declared.output.Written.{Written}
use Rattle.mr_jobs.specs.declared.output.Written.TheVariants as written
use Rattle.mr_split.specs.declared.boundary.Boundary.{Boundary}

-- what is written of rows, whose keys are printed so
abbrev pub written_text : {K : Type 0} → Written → (K → List ℕ) → List (Row K) → List ℕ
written_text written.Rows print = rows_text print
written_text (written.Summary input) print = λ rows. summary input (length rows) (rows_text print rows)

-- the words of a text are counted
abbrev pub counted_words : SeenJob → Written → List ℕ → Meaning
counted_words j written = byte_text j (written_text written (λ k. k)) Boundary.Word word_count_emits

-- and the summary of their rows is written
abbrev pub generated_ending : SeenJob → List ℕ → Ending
generated_ending j text = ending_of j (counted_words j (written.Summary (length text)) text)
