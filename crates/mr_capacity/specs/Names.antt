-- The names that a job file has for each kind.
use Rattle.std.specs.Prelude.{ℕ, List, [], ◌∷◌, codes, Option, option_map, map, find}
use Rattle.std.specs.Borrow.{Bor}
use Rattle.std.specs.Str.{bytes_eq}
use Rattle.mr_capacity.specs.declared.kinds.ContainerKind.{ContainerKind}
use Rattle.mr_capacity.specs.declared.kinds.ContainerKind.TheVariants as container
use Rattle.mr_capacity.specs.declared.kinds.KeyKind.{KeyKind}
use Rattle.mr_capacity.specs.declared.kinds.KeyKind.TheVariants as keys
use Rattle.mr_capacity.specs.declared.kinds.CombinerKind.{CombinerKind}
use Rattle.mr_capacity.specs.declared.kinds.CombinerKind.TheVariants as combiner
use Rattle.mr_capacity.specs.declared.kinds.ReducerKind.{ReducerKind}
use Rattle.mr_capacity.specs.declared.kinds.ReducerKind.TheVariants as reducer
use Rattle.mr_capacity.specs.declared.kinds.QueueKind.{QueueKind}
use Rattle.mr_capacity.specs.declared.kinds.QueueKind.TheVariants as queue

-- the kind of the first entry with this text
abbrev pub named : {K : Type 0} → List (List ℕ × K) → List ℕ → Option K
named names text = option_map (λ entry. entry.1) (find (λ entry. bytes_eq entry.0 text) names)

-- a table of names as the code holds it
abbrev pub entries : {K : Type 0} → List (Bor (List ℕ) × K) → List (List ℕ × K)
entries names = map (λ entry. (entry.0.now, entry.1)) names

-- and as a constant of the code
abbrev pub constant_entries : {K : Type 0} → List (record { now : List ℕ } × K) → List (List ℕ × K)
constant_entries names = map (λ entry. (entry.0.now, entry.1)) names

-- the tables of names, one for each kind but that of jobs, which stands with what else there is of jobs
abbrev pub container_names : List (List ℕ × ContainerKind)
container_names =
    (codes "hash", container.Hash) ∷ (codes "array", container.Array) ∷ (codes "common", container.Common) ∷ []

abbrev pub key_names : List (List ℕ × KeyKind)
key_names = (codes "bytes", keys.Bytes) ∷ (codes "numbers", keys.Numbers) ∷ []

abbrev pub combiner_names : List (List ℕ × CombinerKind)
combiner_names =
    (codes "sum", combiner.Sum)
    ∷ (codes "min", combiner.Min)
    ∷ (codes "max", combiner.Max)
    ∷ (codes "one", combiner.One)
    ∷ (codes "count", combiner.Count)
    ∷ (codes "and", combiner.And)
    ∷ (codes "or", combiner.Or)
    ∷ (codes "xor", combiner.Xor)
    ∷ (codes "minmax", combiner.MinMax)
    ∷ (codes "sumcount", combiner.SumCount)
    ∷ (codes "vecsum", combiner.VecSum)
    ∷ (codes "buffer", combiner.Buffer)
    ∷ (codes "once", combiner.Once)
    ∷ []

abbrev pub reducer_names : List (List ℕ × ReducerKind)
reducer_names =
    (codes "list", reducer.List) ∷ (codes "median", reducer.Median) ∷ (codes "distinct", reducer.Distinct) ∷ []

abbrev pub queue_names : List (List ℕ × QueueKind)
queue_names =
    (codes "blocks", queue.Blocks) ∷ (codes "ranges", queue.Ranges) ∷ (codes "deques", queue.Deques) ∷ []
