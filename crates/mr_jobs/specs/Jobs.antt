-- What each job means on the bytes of its inputs. A new job is a line of `meaning_of_kind`.
use Rattle.std.specs.Prelude.{ℕ, ℤ, ◌*◌, List, [], decimal, Option, Ok, Err, length, slice_index_or}
use Rattle.std.specs.declared.result.Result.{Result}
use Rattle.mr_base.specs.declared.status.Status.TheVariants as status
use Rattle.mr_capacity.specs.Folds.{folded}
use Rattle.mr_capacity.specs.declared.jobs.JobKind.{JobKind}
use Rattle.mr_capacity.specs.declared.jobs.JobKind.TheVariants as job
use Rattle.mr_capacity.specs.declared.kinds.KeyKind.{KeyKind}
use Rattle.mr_capacity.specs.declared.kinds.KeyKind.TheVariants as keys
use Rattle.mr_defs.specs.Emission.{Emission}
use Rattle.mr_defs.specs.Folded.{vecsum_folded}
use Rattle.mr_items.specs.declared.GridFault.{GridFault}
use Rattle.mr_items.specs.Bitmap.{bitmap_fault_of, pixel_rows}
use Rattle.mr_items.specs.FaultLines.{grid_line}
use Rattle.mr_items.specs.FoldLines.{bytes_key, number_key, fold_lines_emits}
use Rattle.mr_items.specs.Grid.{columns_of, grid_of}
use Rattle.mr_items.specs.Histogram.{histogram_emits}
use Rattle.mr_items.specs.InvertedIndex.{inverted_index_emits}
use Rattle.mr_items.specs.KMeans.{is_kmeans_shape, kmeans_emits, kmeans_first, kmeans_next}
use Rattle.mr_items.specs.LinearRegression.{is_regression_shape, linear_regression_emits, regression_text}
use Rattle.mr_items.specs.MatrixProduct.{is_product_shape, matrix_product_emits}
use Rattle.mr_items.specs.Pca.{PcaState, columns, spread, column_emits, spread_emits, pca_next}
use Rattle.mr_items.specs.Report.{Work}
use Rattle.mr_items.specs.StringMatch.{string_match_emits}
use Rattle.mr_items.specs.Texts.{rows_text}
use Rattle.mr_items.specs.WordCount.{word_count_emits}
use Rattle.mr_jobfile.specs.Values.{SeenJob}
use Rattle.mr_jobs.specs.Ending.{Ended, Ending, refused}
use Rattle.mr_jobs.specs.Meaning.{IsLawfulFor, Meaning, byte_text, ending_of, number_spans, number_text, passed_on, pictured, shaped}
use Rattle.mr_jobs.specs.Meaning.{span_rounds, told, two}
use Rattle.mr_split.specs.declared.boundary.Boundary.{Boundary}

-- how many inputs a job has
abbrev pub inputs_wanted : JobKind → ℕ
inputs_wanted job.MatrixProduct = 2
inputs_wanted _ = 1

-- the grid of the input with this number, or the refusal of its fault
abbrev pub gridded : ℕ → Result (List (List ℤ)) GridFault → Ended (List (List ℤ))
gridded number (Ok grid) = Ok grid
gridded number (Err f) = refused status.Input (grid_line number f)

-- what the row with a number emits in each pass over a grid
abbrev pub pca_emits : List (List ℤ) → PcaState → ℕ → List (Emission ℕ ℤ)
pca_emits grid columns = column_emits grid
pca_emits grid (spread means) = spread_emits means grid

module _ (j : SeenJob) where
  -- the lines of a text by the kind of their keys
  abbrev pub folded_lines : KeyKind → List ℕ → Meaning
  folded_lines keys.Bytes = byte_text j (rows_text (λ k. k)) Boundary.Line (fold_lines_emits bytes_key)
  folded_lines keys.Numbers = number_text j Boundary.Line (fold_lines_emits number_key)

  abbrev pub pixels : List ℕ → Meaning
  pixels input = number_spans j (rows_text decimal) (pixel_rows input) (histogram_emits input)

  abbrev pub regression : List (List ℤ) → Meaning
  regression grid =
      shaped 1 (is_regression_shape grid) (number_spans j regression_text (length grid) (linear_regression_emits grid))

  abbrev pub elements : List (List ℤ) → List (List ℤ) → Meaning
  elements left right = number_spans j (rows_text decimal) (length left * columns_of right) (matrix_product_emits left right)

  abbrev pub product : List (List ℤ) → List (List ℤ) → Meaning
  product left right = shaped 2 (is_product_shape left right) (elements left right)

  -- each point goes to the nearest mean, and the means move, round by round
  abbrev pub clusters : List (List ℤ) → Meaning
  clusters points = shaped 1 (is_kmeans_shape j.clusters points) (span_rounds j vecsum_folded (length points)
      (λ s. kmeans_emits s.means points) kmeans_next told (kmeans_first j.clusters j.rounds points))

  -- the means of the columns, then how they vary together
  abbrev pub passes : List (List ℤ) → Meaning
  passes grid = span_rounds j (folded j.combiner j.reducer) (length grid) (pca_emits grid) (pca_next grid) two columns

  module _ (inputs : List (List ℕ)) where
    -- the first input, and the grids of inputs by their places
    abbrev pub first : List ℕ
    first = slice_index_or inputs 0 []

    abbrev pub first_grid : Ended (List (List ℤ))
    first_grid = gridded 1 (grid_of (slice_index_or inputs 0 []))

    abbrev pub second_grid : Ended (List (List ℤ))
    second_grid = gridded 2 (grid_of (slice_index_or inputs 1 []))

    abbrev pub meaning_of_kind : JobKind → Meaning
    meaning_of_kind job.WordCount = byte_text j (rows_text (λ k. k)) Boundary.Word word_count_emits first
    meaning_of_kind job.FoldLines = folded_lines j.keys first
    meaning_of_kind job.InvertedIndex = byte_text j (rows_text (λ k. k)) Boundary.Line inverted_index_emits first
    meaning_of_kind job.StringMatch = number_text j Boundary.Line (string_match_emits j.patterns) first
    meaning_of_kind job.Histogram = pictured 1 (bitmap_fault_of first) (pixels first)
    meaning_of_kind job.LinearRegression = passed_on first_grid regression
    meaning_of_kind job.MatrixProduct = passed_on first_grid (λ left. passed_on second_grid (product left))
    meaning_of_kind job.KMeans = passed_on first_grid clusters
    meaning_of_kind job.Pca = passed_on first_grid passes

    -- what the job means, by its kind
    abbrev pub job_meaning : Meaning
    job_meaning = meaning_of_kind j.job

    -- what the job comes to
    abbrev pub job_ending : Ending
    job_ending = ending_of j job_meaning

    -- the rounds are those of the job, and so many workers are told of, or none
    abbrev pub IsLawfulReport : Option ℕ → List (List Work) → Type 0
    IsLawfulReport workers rounds = IsLawfulFor j job_meaning workers rounds
