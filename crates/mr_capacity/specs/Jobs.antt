-- The jobs: their names, which of them go over a text, and what each goes together with. A new job is a line in each table.
use Rattle.std.specs.Prelude.{ℕ, List, [], ◌∷◌, codes, Bool}
use Rattle.std.specs.List.{list_any}
use Rattle.mr_capacity.specs.declared.jobs.JobKind.{JobKind}
use Rattle.mr_capacity.specs.declared.jobs.JobKind.TheVariants as job
use Rattle.mr_capacity.specs.declared.kinds.ContainerKind.{ContainerKind}
use Rattle.mr_capacity.specs.declared.kinds.ContainerKind.TheVariants as container
use Rattle.mr_capacity.specs.declared.kinds.KeyKind.TheVariants as keys
use Rattle.mr_capacity.specs.declared.kinds.CombinerKind.{CombinerKind}
use Rattle.mr_capacity.specs.declared.kinds.CombinerKind.TheVariants as combiner
use Rattle.mr_capacity.specs.declared.kinds.ReducerKind.{ReducerKind}
use Rattle.mr_capacity.specs.declared.kinds.ReducerKind.TheVariants as reducer
use Rattle.mr_capacity.specs.declared.jobs.Further.TheVariants as further
use Rattle.mr_capacity.specs.Rows.{PairingRow, row_of}
use Rattle.mr_capacity.specs.Same.{same_job}

-- by name
abbrev pub job_names : List (List ℕ × JobKind)
job_names =
    (codes "word_count", job.WordCount)
    ∷ (codes "fold_lines", job.FoldLines)
    ∷ (codes "inverted_index", job.InvertedIndex)
    ∷ (codes "string_match", job.StringMatch)
    ∷ (codes "histogram", job.Histogram)
    ∷ (codes "linear_regression", job.LinearRegression)
    ∷ (codes "matrix_product", job.MatrixProduct)
    ∷ (codes "kmeans", job.KMeans)
    ∷ (codes "pca", job.Pca)
    ∷ []

-- over the bytes of a text
abbrev pub text_jobs : List JobKind
text_jobs = job.WordCount ∷ job.FoldLines ∷ job.InvertedIndex ∷ job.StringMatch ∷ []

abbrev pub is_text_job : JobKind → Bool
is_text_job kind = list_any (λ k. same_job k kind) text_jobs

-- containers: a hash table; those that each worker has for itself; the array that all share
abbrev hash : List ContainerKind
hash = container.Hash ∷ []

abbrev own : List ContainerKind
own = container.Hash ∷ container.Array ∷ []

abbrev common : List ContainerKind
common = container.Common ∷ []

-- combiners: those that fold whole numbers without keeping them; those that count; those of the places of a word; and single ones
abbrev plain : List CombinerKind
plain =
    combiner.Sum ∷ combiner.Min ∷ combiner.Max ∷ combiner.One ∷ combiner.Count
    ∷ combiner.And ∷ combiner.Or ∷ combiner.Xor ∷ combiner.MinMax ∷ combiner.SumCount ∷ []

abbrev counts : List CombinerKind
counts = combiner.Sum ∷ combiner.Count ∷ combiner.One ∷ []

abbrev places : List CombinerKind
places = combiner.Min ∷ combiner.Max ∷ combiner.Count ∷ []

abbrev sum : List CombinerKind
sum = combiner.Sum ∷ []

abbrev vecsum : List CombinerKind
vecsum = combiner.VecSum ∷ []

abbrev once : List CombinerKind
once = combiner.Once ∷ []

-- reducers of a buffer
abbrev each : List ReducerKind
each = reducer.List ∷ reducer.Median ∷ reducer.Distinct ∷ []

abbrev lists : List ReducerKind
lists = reducer.List ∷ reducer.Distinct ∷ []

-- the table of pairings
abbrev pub rows : List PairingRow
rows =
    row_of job.WordCount keys.Bytes hash counts [] further.Nothing
    ∷ row_of job.FoldLines keys.Bytes hash plain each further.Keys
    ∷ row_of job.FoldLines keys.Numbers own plain each further.Keys
    ∷ row_of job.FoldLines keys.Numbers common once [] further.Keys
    ∷ row_of job.InvertedIndex keys.Bytes hash places lists further.Nothing
    ∷ row_of job.StringMatch keys.Numbers own counts [] further.Patterns
    ∷ row_of job.Histogram keys.Numbers own counts [] further.Nothing
    ∷ row_of job.LinearRegression keys.Numbers own sum [] further.Nothing
    ∷ row_of job.MatrixProduct keys.Numbers own sum [] further.Nothing
    ∷ row_of job.MatrixProduct keys.Numbers common once [] further.Nothing
    ∷ row_of job.KMeans keys.Numbers own vecsum [] further.Means
    ∷ row_of job.Pca keys.Numbers own sum [] further.Nothing
    ∷ []
