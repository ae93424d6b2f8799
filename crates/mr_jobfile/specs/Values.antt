-- What a table says of each key, and the job that it means.
use Rattle.std.specs.Prelude.{ℕ, Bool, true, false, is_some, is_none, ◌&&◌, List, [], if◌then◌else◌, Option, Some, None, option_map}
use Rattle.std.specs.Prelude.{option_and_then, unwrap_or, find}
use Rattle.std.specs.Option.{option_map_or}
use Rattle.toml.specs.Data.{Data, Members, get_member}
use Rattle.mr_capacity.specs.declared.jobs.JobKind.{JobKind}
use Rattle.mr_capacity.specs.declared.kinds.ContainerKind.{ContainerKind}
use Rattle.mr_capacity.specs.declared.kinds.KeyKind.{KeyKind}
use Rattle.mr_capacity.specs.declared.kinds.CombinerKind.{CombinerKind}
use Rattle.mr_capacity.specs.declared.kinds.ReducerKind.{ReducerKind}
use Rattle.mr_capacity.specs.declared.kinds.QueueKind.{QueueKind}
use Rattle.mr_capacity.specs.declared.kinds.QueueKind.TheVariants as queue
use Rattle.mr_capacity.specs.declared.jobs.Further.TheVariants as further
use Rattle.mr_capacity.specs.Jobs.{is_text_job, job_names, rows}
use Rattle.mr_capacity.specs.Names.{container_names, key_names, combiner_names, reducer_names, queue_names}
use Rattle.mr_capacity.specs.Rows.{PairingRow}
use Rattle.mr_capacity.specs.Same.{same_keys, same_further}
use Rattle.mr_capacity.specs.Tables.{is_row}
use Rattle.mr_jobfile.specs.declared.key.JobKey.{JobKey}
use Rattle.mr_jobfile.specs.declared.key.JobKey.TheVariants as key
use Rattle.mr_jobfile.specs.declared.values.Values.{Values}
use Rattle.mr_jobfile.specs.Keys.{key_text}
use Rattle.mr_jobfile.specs.Forms.{number_in, kind_in, texts_in}

-- what the table says of a key, by a reading of its value
abbrev pub said : {A : Type 0} → (Data → Option A) → JobKey → Members → Option A
said read k ms = option_and_then read (get_member (key_text k) ms)

-- what it says of each key
abbrev pub values_of : Members → Values
values_of ms = record {
  job = said (kind_in job_names) key.Job ms;
  container = said (kind_in container_names) key.Container ms;
  capacity = said number_in key.Capacity ms;
  combiner = said (kind_in combiner_names) key.Combiner ms;
  reducer = said (kind_in reducer_names) key.Reducer ms;
  keys = said (kind_in key_names) key.Keys ms;
  queue = said (kind_in queue_names) key.Queue ms;
  partitions = said number_in key.Partitions ms;
  chunk = said number_in key.Chunk ms;
  clusters = said number_in key.Clusters ms;
  rounds = said number_in key.Rounds ms;
  patterns = said texts_in key.Patterns ms;
}

-- the value is there exactly where it is named
abbrev pub is_there_exactly : {A : Type 0} → Bool → Option A → Bool
is_there_exactly true value = is_some value
is_there_exactly false value = is_none value

-- of the further keys exactly those are there that the row names, and keys is the row's key kind
abbrev pub has_further : PairingRow → Values → Bool
has_further row v =
    is_there_exactly (same_further row.further further.Keys) v.keys
    && is_there_exactly (same_further row.further further.Patterns) v.patterns
    && is_there_exactly (same_further row.further further.Means) v.clusters
    && is_there_exactly (same_further row.further further.Means) v.rounds
    && option_map_or (same_keys row.keys) v.keys true

-- the row has this job and container, this combiner with the reducer that the values have, and their further keys
abbrev pub fits_row : Values → JobKind → ContainerKind → CombinerKind → PairingRow → Bool
fits_row v job container combiner row = is_row row job container row.keys combiner v.reducer && has_further row v

-- the key kind of the first such row
abbrev pub keys_in : List PairingRow → Values → JobKind → ContainerKind → CombinerKind → Option KeyKind
keys_in rows v job container combiner = option_map (λ row. row.keys) (find (fits_row v job container combiner) rows)

-- a job as clauses see it: its fields, without the bounds that they keep
pub record SeenJob : Type 0 where
  pub job : JobKind
  pub container : ContainerKind
  pub capacity : ℕ
  pub keys : KeyKind
  pub combiner : CombinerKind
  pub reducer : Option ReducerKind
  pub queue : QueueKind
  pub partitions : ℕ
  pub chunk : ℕ
  pub clusters : ℕ
  pub rounds : ℕ
  pub patterns : List (List ℕ)

-- the queue, the partitions and the chunk of a job whose file gives none
abbrev pub default_queue : QueueKind
default_queue = queue.Deques

abbrev pub default_partitions : ℕ
default_partitions = 16

abbrev pub default_chunk : JobKind → ℕ
default_chunk job = if is_text_job job then 65536 else 64

-- the job of a row with this key kind; defaults stand in for what the file doesn't say
abbrev pub job_with : Values → JobKind → ContainerKind → ℕ → CombinerKind → KeyKind → SeenJob
job_with v job container capacity combiner keys = record {
  job = job;
  container = container;
  capacity = capacity;
  keys = keys;
  combiner = combiner;
  reducer = v.reducer;
  queue = unwrap_or v.queue default_queue;
  partitions = unwrap_or v.partitions default_partitions;
  chunk = unwrap_or v.chunk (default_chunk job);
  clusters = unwrap_or v.clusters 0;
  rounds = unwrap_or v.rounds 0;
  patterns = unwrap_or v.patterns [];
}

-- a job has the four kinds and numbers that every file needs, and fits a row
abbrev pub job_by : Values → Option JobKind → Option ContainerKind → Option ℕ → Option CombinerKind → Option SeenJob
job_by v (Some job) (Some container) (Some capacity) (Some combiner) =
    option_map (job_with v job container capacity combiner) (keys_in rows v job container combiner)
job_by v _ _ _ _ = None

-- the job that the values mean, where they fit a row
abbrev pub described : Values → Option SeenJob
described v = job_by v v.job v.container v.capacity v.combiner
