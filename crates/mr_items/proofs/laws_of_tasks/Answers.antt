use Rattle.std.specs.Prelude.{length, ◌*◌}
use Rattle.mr_items.specs.Bitmap.{pixel_rows}
use Rattle.mr_items.specs.FoldLines.{fold_lines_emits}
use Rattle.mr_items.specs.Grid.{columns_of}
use Rattle.mr_items.specs.Histogram.{histogram_emits}
use Rattle.mr_items.specs.InvertedIndex.{inverted_index_emits}
use Rattle.mr_items.specs.KMeans.{kmeans_emits}
use Rattle.mr_items.specs.LinearRegression.{linear_regression_emits}
use Rattle.mr_items.specs.MatrixProduct.{matrix_product_emits}
use Rattle.mr_items.specs.Pca.{column_emits, spread_emits}
use Rattle.mr_items.specs.StringMatch.{string_match_emits}
use Rattle.mr_items.specs.WordCount.{word_count_emits}
use Rattle.mr_items.proofs.AllTasks.{word_tasks, line_tasks, span_tasks}
use Rattle.mr_items.proofs.laws_of_tasks.Goals as goal

pub returns-clause-word_count : goal.returns-clause-word_count
returns-clause-word_count g c = λ bytes. word_tasks (word_count_emits bytes) bytes

pub returns-clause-fold_lines : goal.returns-clause-fold_lines
returns-clause-fold_lines g c = λ key bytes. line_tasks (fold_lines_emits key bytes) bytes

pub returns-clause-inverted_index : goal.returns-clause-inverted_index
returns-clause-inverted_index g c = λ bytes. line_tasks (inverted_index_emits bytes) bytes

pub returns-clause-string_match : goal.returns-clause-string_match
returns-clause-string_match g c = λ patterns bytes. line_tasks (string_match_emits patterns bytes) bytes

pub returns-clause-histogram : goal.returns-clause-histogram
returns-clause-histogram g c = λ bytes. span_tasks (histogram_emits bytes) (pixel_rows bytes)

pub returns-clause-linear_regression : goal.returns-clause-linear_regression
returns-clause-linear_regression g c = λ grid. span_tasks (linear_regression_emits grid) (length grid)

pub returns-clause-matrix_product : goal.returns-clause-matrix_product
returns-clause-matrix_product g c = λ left right. span_tasks (matrix_product_emits left right) (length left * columns_of right)

pub returns-clause-kmeans : goal.returns-clause-kmeans
returns-clause-kmeans g c = λ means points. span_tasks (kmeans_emits means points) (length points)

pub returns-clause-columns : goal.returns-clause-columns
returns-clause-columns g c = λ grid. span_tasks (column_emits grid) (length grid)

pub returns-clause-spread : goal.returns-clause-spread
returns-clause-spread g c = λ means grid. span_tasks (spread_emits means grid) (length grid)
