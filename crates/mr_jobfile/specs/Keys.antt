-- The keys of a job file, and which of them a table lacks.
use Rattle.std.specs.Prelude.{ℕ, Bool, not, is_some, List, [], ◌∷◌, filter, find, codes, Option}
use Rattle.std.specs.List.{list_any}
use Rattle.std.specs.Cmp.Lexicographic.{slice_cmp}
use Rattle.std.specs.Ordering.{nat_cmp}
use Rattle.std.specs.Str.{bytes_eq}
use Rattle.toml.specs.Data.{Members, no_members, member, get_member}
use Rattle.mr_defs.specs.Keyed.{least}
use Rattle.mr_jobfile.specs.declared.key.JobKey.{JobKey}
use Rattle.mr_jobfile.specs.declared.key.JobKey.TheVariants as key

-- the key as it stands in the file
abbrev pub key_text : JobKey → List ℕ
key_text key.Version = codes "version"
key_text key.Job = codes "job"
key_text key.Container = codes "container"
key_text key.Capacity = codes "capacity"
key_text key.Combiner = codes "combiner"
key_text key.Reducer = codes "reducer"
key_text key.Keys = codes "keys"
key_text key.Queue = codes "queue"
key_text key.Partitions = codes "partitions"
key_text key.Chunk = codes "chunk"
key_text key.Clusters = codes "clusters"
key_text key.Rounds = codes "rounds"
key_text key.Patterns = codes "patterns"

-- the keys that every file has; and all keys, in the order in which faults are looked for
abbrev pub needed_keys : List JobKey
needed_keys = key.Version ∷ key.Job ∷ key.Container ∷ key.Capacity ∷ key.Combiner ∷ []

abbrev pub all_keys : List JobKey
all_keys =
    key.Version ∷ key.Job ∷ key.Container ∷ key.Capacity ∷ key.Combiner ∷ key.Reducer ∷ key.Keys ∷ key.Queue
    ∷ key.Partitions ∷ key.Chunk ∷ key.Clusters ∷ key.Rounds ∷ key.Patterns ∷ []

-- some key has this text
abbrev pub is_known : List ℕ → Bool
is_known name = list_any (λ k. bytes_eq name (key_text k)) all_keys

-- no key has
abbrev pub is_unknown : List ℕ → Bool
is_unknown name = not (is_known name)

-- the keys of a table, in byte order
abbrev pub names_in : Members → List (List ℕ)
names_in no_members = []
names_in (member name d ms) = name ∷ names_in ms

-- the least key in byte order that no job file has
abbrev pub least_unknown : Members → Option (List ℕ)
least_unknown ms = least (slice_cmp nat_cmp) (filter is_unknown (names_in ms))

-- the first needed key that isn't there
abbrev pub first_missing : Members → Option JobKey
first_missing ms = find (λ k. not (is_some (get_member (key_text k) ms))) needed_keys
