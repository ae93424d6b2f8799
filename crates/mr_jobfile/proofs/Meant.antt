-- The job that the values of a file mean.
use Rattle.std.proofs.Common.{◌≡◌, ℕ, List, [], ◌∷◌, ◌++◌, codes, refl, Option, Some, None, option_map}
use Rattle.std.specs.Str.{chars, is_utf8}
use Rattle.std.specs.Char.{encode_utf8}
use Rattle.toml.proofs.OnLiterals.{toml_on_literals}
use Rattle.mr_capacity.specs.declared.jobs.JobKind.TheVariants as job
use Rattle.mr_capacity.specs.declared.kinds.ContainerKind.TheVariants as container
use Rattle.mr_capacity.specs.declared.kinds.KeyKind.TheVariants as keys
use Rattle.mr_capacity.specs.declared.kinds.CombinerKind.TheVariants as combiner
use Rattle.mr_capacity.specs.declared.kinds.ReducerKind.TheVariants as reducer
use Rattle.mr_capacity.specs.declared.kinds.QueueKind.TheVariants as queue
use Rattle.mr_jobfile.specs.Values.{SeenJob, values_of, described}
use Rattle.mr_jobfile.specs.JobOf.{document_of}

abbrev meant : List ℕ → Option (Option SeenJob)
meant bytes = option_map (λ ms. described (values_of ms)) (document_of bytes)

abbrev file : List ℕ → List ℕ → List ℕ → List ℕ → List ℕ → List ℕ
file job container capacity combiner more =
    codes "version = 1\njob = \"" ++ job ++ codes "\"\ncontainer = \"" ++ container ++ codes "\"\ncapacity = " ++ capacity
    ++ codes "\ncombiner = \"" ++ combiner ++ codes "\"\n" ++ more

abbrev plain : SeenJob
plain = record {
  job = job.FoldLines;
  container = container.Array;
  capacity = 16;
  keys = keys.Numbers;
  combiner = combiner.Sum;
  reducer = None;
  queue = queue.Deques;
  partitions = 16;
  chunk = 64;
  clusters = 0;
  rounds = 0;
  patterns = [];
}

bytes_folded : meant (file (codes "fold_lines") (codes "hash") (codes "16") (codes "sum") (codes "keys = \"bytes\"\n"))
    ≡ Some (Some (record plain { container = container.Hash; keys = keys.Bytes; chunk = 65536 }))
unfolding toml_on_literals chars encode_utf8 is_utf8 document_of
bytes_folded = refl

numbers_folded : meant (file (codes "fold_lines") (codes "array") (codes "16") (codes "sum") (codes "keys = \"numbers\"\n"))
    ≡ Some (Some (record plain { chunk = 65536 }))
unfolding toml_on_literals chars encode_utf8 is_utf8 document_of
numbers_folded = refl

once_folded : meant (file (codes "fold_lines") (codes "common") (codes "16") (codes "once") (codes "keys = \"numbers\"\n"))
    ≡ Some (Some (record plain { container = container.Common; combiner = combiner.Once; chunk = 65536 }))
unfolding toml_on_literals chars encode_utf8 is_utf8 document_of
once_folded = refl

median_folded : meant (file (codes "fold_lines") (codes "hash") (codes "16") (codes "buffer")
    (codes "keys = \"numbers\"\nreducer = \"median\"\n"))
    ≡ Some (Some (record plain { container = container.Hash; combiner = combiner.Buffer; reducer = Some reducer.Median; chunk = 65536 }))
unfolding toml_on_literals chars encode_utf8 is_utf8 document_of
median_folded = refl

index : meant (file (codes "inverted_index") (codes "hash") (codes "64") (codes "buffer") (codes "reducer = \"distinct\"\n"))
    ≡ Some (Some (record plain {
      job = job.InvertedIndex;
      container = container.Hash;
      capacity = 64;
      keys = keys.Bytes;
      combiner = combiner.Buffer;
      reducer = Some reducer.Distinct;
      chunk = 65536;
    }))
unfolding toml_on_literals chars encode_utf8 is_utf8 document_of
index = refl

matched : meant (file (codes "string_match") (codes "array") (codes "16") (codes "count") (codes "patterns = [\"ab\", \"zz\", \"b\"]\n"))
    ≡ Some (Some (record plain {
      job = job.StringMatch;
      combiner = combiner.Count;
      chunk = 65536;
      patterns = codes "ab" ∷ codes "zz" ∷ codes "b" ∷ [];
    }))
unfolding toml_on_literals chars encode_utf8 is_utf8 document_of
matched = refl

pixels : meant (file (codes "histogram") (codes "array") (codes "768") (codes "sum") [])
    ≡ Some (Some (record plain { job = job.Histogram; capacity = 768 }))
unfolding toml_on_literals chars encode_utf8 is_utf8 document_of
pixels = refl

regression : meant (file (codes "linear_regression") (codes "array") (codes "16") (codes "sum") [])
    ≡ Some (Some (record plain { job = job.LinearRegression }))
unfolding toml_on_literals chars encode_utf8 is_utf8 document_of
regression = refl

product : meant (file (codes "matrix_product") (codes "common") (codes "16") (codes "once") [])
    ≡ Some (Some (record plain { job = job.MatrixProduct; container = container.Common; combiner = combiner.Once }))
unfolding toml_on_literals chars encode_utf8 is_utf8 document_of
product = refl

clustered : meant (file (codes "kmeans") (codes "array") (codes "16") (codes "vecsum")
    (codes "clusters = 2\nrounds = 9\nqueue = \"ranges\"\nchunk = 3\n"))
    ≡ Some (Some (record plain { job = job.KMeans; combiner = combiner.VecSum; clusters = 2; rounds = 9; queue = queue.Ranges; chunk = 3 }))
unfolding toml_on_literals chars encode_utf8 is_utf8 document_of
clustered = refl

covariance : meant (file (codes "pca") (codes "array") (codes "16") (codes "sum") (codes "partitions = 1\n"))
    ≡ Some (Some (record plain { job = job.Pca; partitions = 1 }))
unfolding toml_on_literals chars encode_utf8 is_utf8 document_of
covariance = refl

no_keys : meant (file (codes "fold_lines") (codes "hash") (codes "16") (codes "sum") []) ≡ Some None
unfolding toml_on_literals chars encode_utf8 is_utf8 document_of
no_keys = refl

keys_of_the_other_kind : meant (file (codes "fold_lines") (codes "array") (codes "16") (codes "sum") (codes "keys = \"bytes\"\n"))
    ≡ Some None
unfolding toml_on_literals chars encode_utf8 is_utf8 document_of
keys_of_the_other_kind = refl

keys_beside_a_text : meant (file (codes "inverted_index") (codes "hash") (codes "16") (codes "min") (codes "keys = \"bytes\"\n"))
    ≡ Some None
unfolding toml_on_literals chars encode_utf8 is_utf8 document_of
keys_beside_a_text = refl

no_reducer : meant (file (codes "inverted_index") (codes "hash") (codes "16") (codes "buffer") []) ≡ Some None
unfolding toml_on_literals chars encode_utf8 is_utf8 document_of
no_reducer = refl

median_of_an_index : meant (file (codes "inverted_index") (codes "hash") (codes "16") (codes "buffer") (codes "reducer = \"median\"\n"))
    ≡ Some None
unfolding toml_on_literals chars encode_utf8 is_utf8 document_of
median_of_an_index = refl

no_patterns : meant (file (codes "string_match") (codes "array") (codes "16") (codes "count") []) ≡ Some None
unfolding toml_on_literals chars encode_utf8 is_utf8 document_of
no_patterns = refl

no_rounds : meant (file (codes "kmeans") (codes "array") (codes "16") (codes "vecsum") (codes "clusters = 2\n")) ≡ Some None
unfolding toml_on_literals chars encode_utf8 is_utf8 document_of
no_rounds = refl

clusters_of_pca : meant (file (codes "pca") (codes "array") (codes "16") (codes "sum") (codes "clusters = 2\nrounds = 1\n")) ≡ Some None
unfolding toml_on_literals chars encode_utf8 is_utf8 document_of
clusters_of_pca = refl

shared_histogram : meant (file (codes "histogram") (codes "common") (codes "768") (codes "once") []) ≡ Some None
unfolding toml_on_literals chars encode_utf8 is_utf8 document_of
shared_histogram = refl

sum_of_points : meant (file (codes "kmeans") (codes "array") (codes "16") (codes "sum") (codes "clusters = 2\nrounds = 1\n")) ≡ Some None
unfolding toml_on_literals chars encode_utf8 is_utf8 document_of
sum_of_points = refl
