-- Which values a key may have.
use Rattle.std.specs.Prelude.{ℕ, pos, ◌^◌, Bool, false, not, nat_lt, is_some, List, [], ◌∷◌, find, if◌then◌else◌, Option, Some, None}
use Rattle.std.specs.Prelude.{option_and_then, option_map}
use Rattle.std.specs.Option.{option_map_or}
use Rattle.toml.specs.Data.{Data, string, integer, Items, no_items, item, Members, get_member, as_str, as_array}
use Rattle.mr_capacity.specs.Jobs.{job_names}
use Rattle.mr_capacity.specs.Names.{named, container_names, key_names, combiner_names, reducer_names, queue_names}
use Rattle.mr_capacity.specs.Tables.{is_capacity}
use Rattle.mr_jobfile.specs.declared.key.JobKey.{JobKey}
use Rattle.mr_jobfile.specs.declared.key.JobKey.TheVariants as key
use Rattle.mr_jobfile.specs.Keys.{key_text, all_keys}
use Rattle.mr_jobfile.specs.Ranges.{is_within, are_patterns, most_partitions, greatest_chunk, most_clusters, most_rounds}

-- the value is there, and the test holds of it
abbrev pub is_there : {A : Type 0} → (A → Bool) → Option A → Bool
is_there test value = option_map_or test value false

-- a whole number of 32 bits
abbrev pub number_in : Data → Option ℕ
number_in (integer (pos n)) = if nat_lt n (2 ^ 32) then Some n else None
number_in _ = None

-- the kind that a text names
abbrev pub kind_in : {K : Type 0} → List (List ℕ × K) → Data → Option K
kind_in names d = option_and_then (named names) (as_str d)

-- the texts of an array, where it has nothing else
abbrev pub texts_of : Items → Option (List (List ℕ))
texts_of no_items = Some []
texts_of (item (string text) ds) = option_map (λ texts. text ∷ texts) (texts_of ds)
texts_of (item _ ds) = None

-- the texts of a value that is such an array
abbrev pub texts_in : Data → Option (List (List ℕ))
texts_in d = option_and_then texts_of (as_array d)

-- the value is one that the key may have
abbrev pub fits : JobKey → Data → Bool
fits key.Version d = is_there (is_within 1 1) (number_in d)
fits key.Job d = is_some (kind_in job_names d)
fits key.Container d = is_some (kind_in container_names d)
fits key.Capacity d = is_there (λ n. is_capacity (pos n)) (number_in d)
fits key.Combiner d = is_some (kind_in combiner_names d)
fits key.Reducer d = is_some (kind_in reducer_names d)
fits key.Keys d = is_some (kind_in key_names d)
fits key.Queue d = is_some (kind_in queue_names d)
fits key.Partitions d = is_there (is_within 1 most_partitions) (number_in d)
fits key.Chunk d = is_there (is_within 1 greatest_chunk) (number_in d)
fits key.Clusters d = is_there (is_within 1 most_clusters) (number_in d)
fits key.Rounds d = is_there (is_within 1 most_rounds) (number_in d)
fits key.Patterns d = is_there are_patterns (texts_in d)

-- the key is there, with a value that it may not have
abbrev pub is_bad : Members → JobKey → Bool
is_bad ms k = is_there (λ d. not (fits k d)) (get_member (key_text k) ms)

-- the first such key
abbrev pub first_bad : Members → Option JobKey
first_bad ms = find (is_bad ms) all_keys
