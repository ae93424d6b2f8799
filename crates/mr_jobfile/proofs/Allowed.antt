-- A table with no bad value means a job within its bounds.
use Rattle.std.proofs.Common.{◌≡◌, ◌∙◌, ap, ℕ, pos, Bool, true, false, not, ◌&&◌, List, [], find, cond, Option, Some, None, refl}
use Rattle.std.proofs.Common.{option_map, option_and_then}
use Rattle.std.specs.Prelude.{IfSome, unwrap_or, slice_get}
use Rattle.std.specs.List.{list_all}
use Rattle.std.proofs.lemmas.Bool.{and_parts}
use denote.Enum.Bare.{same_true}
use Rattle.toml.specs.Data.{Data, Members, get_member}
use Rattle.mr_capacity.specs.declared.jobs.JobKind.{JobKind}
use Rattle.mr_capacity.specs.declared.kinds.ContainerKind.{ContainerKind}
use Rattle.mr_capacity.specs.declared.kinds.CombinerKind.{CombinerKind}
use Rattle.mr_capacity.specs.declared.jobs.Further.TheVariants as further
use Rattle.mr_capacity.specs.contracts.jobs.JobKind.{the_type}
use Rattle.mr_capacity.specs.Same.{same_job, same_further, same_keys}
use Rattle.mr_capacity.specs.Jobs.{is_text_job, rows}
use Rattle.mr_capacity.specs.Rows.{PairingRow}
use Rattle.mr_capacity.specs.Tables.{is_row, is_capacity, is_pairing, has_parts}
use Rattle.mr_jobfile.specs.declared.key.JobKey.{JobKey}
use Rattle.mr_jobfile.specs.declared.key.JobKey.TheVariants as key
use Rattle.mr_jobfile.specs.declared.values.Values.{Values}
use Rattle.mr_jobfile.specs.Ranges.{most_partitions, greatest_chunk, most_clusters, most_rounds, is_within, is_count_of, are_patterns}
use Rattle.mr_jobfile.specs.Ranges.{are_patterns_of, has_means, has_patterns}
use Rattle.mr_jobfile.specs.Forms.{is_there, is_bad, first_bad, number_in, texts_in}
use Rattle.mr_jobfile.specs.Keys.{key_text, all_keys}
use Rattle.mr_jobfile.specs.Values.{said, values_of, is_there_exactly, has_further, fits_row, keys_in, default_chunk, default_partitions}
use Rattle.mr_jobfile.specs.Values.{job_with, job_by, described}
use Rattle.mr_jobfile.specs.Allowed.{IsAllowed}
use Rattle.mr_jobfile.proofs.Found.{not_found, found_passes, found_among, some_more, some_map, some_both}

-- what the values of a table without a bad value keep
pub record AreGood (v : Values) : Type 0 where
  pub capacity : IfSome v.capacity (λ n. is_capacity (pos n) ≡ true)
  pub partitions : IfSome v.partitions (λ n. is_within 1 most_partitions n ≡ true)
  pub chunk : IfSome v.chunk (λ n. is_within 1 greatest_chunk n ≡ true)
  pub clusters : IfSome v.clusters (λ n. is_within 1 most_clusters n ≡ true)
  pub rounds : IfSome v.rounds (λ n. is_within 1 most_rounds n ≡ true)
  pub patterns : IfSome v.patterns (λ ps. are_patterns ps ≡ true)

there : {A : Type 0} (test : A → Bool) (value : Option A) → not (is_there test value) ≡ false → IfSome value (λ x. test x ≡ true)
there test None good = tt
there test (Some x) good = passes (test x) good
  where
    passes : (b : Bool) → not b ≡ false → b ≡ true
    passes true e = refl
    passes false e = cc

good_at : {A : Type 0} (test : A → Bool) (read : Data → Option A) (value : Option Data)
    → is_there (λ d. not (is_there test (read d))) value ≡ false
    → IfSome (option_and_then read value) (λ x. test x ≡ true)
good_at test read None good = tt
good_at test read (Some d) good = there test (read d) good

number_good : (test : ℕ → Bool) (ms : Members) (k : JobKey)
    → is_there (λ d. not (is_there test (number_in d))) (get_member (key_text k) ms) ≡ false
    → IfSome (said number_in k ms) (λ n. test n ≡ true)
number_good test ms k good = good_at test number_in (get_member (key_text k) ms) good

are_good : (ms : Members) → first_bad ms ≡ None → AreGood (values_of ms)
are_good ms none =
    let good : (i : ℕ) (k : JobKey) → slice_get all_keys i ≡ Some k → is_bad ms k ≡ false =
    λ i k at. not_found (is_bad ms) all_keys i k none at in
    record {
      capacity = number_good (λ n. is_capacity (pos n)) ms key.Capacity (good 3 key.Capacity refl);
      partitions = number_good (is_within 1 most_partitions) ms key.Partitions (good 8 key.Partitions refl);
      chunk = number_good (is_within 1 greatest_chunk) ms key.Chunk (good 9 key.Chunk refl);
      clusters = number_good (is_within 1 most_clusters) ms key.Clusters (good 10 key.Clusters refl);
      rounds = number_good (is_within 1 most_rounds) ms key.Rounds (good 11 key.Rounds refl);
      patterns = good_at are_patterns texts_in (get_member (key_text key.Patterns) ms) (good 12 key.Patterns refl);
    }

default_good : {A : Type 0} (test : A → Bool) (value : Option A) (other : A) → IfSome value (λ x. test x ≡ true) → test other ≡ true
    → test (unwrap_or value other) ≡ true
default_good test None other good fallback = fallback
default_good test (Some x) other good fallback = good

count_good : (named : Bool) (high : ℕ) (value : Option ℕ) → is_there_exactly named value ≡ true
    → IfSome value (λ n. is_within 1 high n ≡ true) → is_count_of named high (unwrap_or value 0) ≡ true
count_good true high None named good = cc
count_good true high (Some n) named good = good
count_good false high None named good = refl
count_good false high (Some n) named good = cc

patterns_good : (named : Bool) (value : Option (List (List ℕ))) → is_there_exactly named value ≡ true
    → IfSome value (λ ps. are_patterns ps ≡ true) → are_patterns_of named (unwrap_or value []) ≡ true
patterns_good true None named good = cc
patterns_good true (Some ps) named good = good
patterns_good false None named good = refl
patterns_good false (Some ps) named good = cc

-- the further keys of a row are those of its job
abbrev same_flag : Bool → Bool → Bool
same_flag true b = b
same_flag false b = not b

abbrev agrees : PairingRow → Bool
agrees row = same_flag (has_means row.job) (same_further row.further further.Means)
    && same_flag (has_patterns row.job) (same_further row.further further.Patterns)

all_agree : list_all agrees rows ≡ true
all_agree = refl

flags_same : (a b : Bool) → same_flag a b ≡ true → b ≡ a
flags_same true b e = e
flags_same false true e = cc
flags_same false false e = refl

-- the values have the further keys of the job
record HasFurther (v : Values) (job : JobKind) : Type 0 where
  clusters : is_there_exactly (has_means job) v.clusters ≡ true
  rounds : is_there_exactly (has_means job) v.rounds ≡ true
  patterns : is_there_exactly (has_patterns job) v.patterns ≡ true

further_of : (v : Values) (job : JobKind) (container : ContainerKind) (combiner : CombinerKind) (row : PairingRow)
    → fits_row v job container combiner row ≡ true → agrees row ≡ true → HasFurther v job
further_of v job container combiner row fits agree =
    let (in_row, others) = and_parts (is_row row job container row.keys combiner v.reducer) (has_further row v) fits in
    let (kinds, parts) =
    and_parts (same_job row.job job && same_keys row.keys row.keys) (has_parts row container combiner v.reducer) in_row in
    let same : row.job ≡ job = same_true the_type tt row.job job (and_parts (same_job row.job job) (same_keys row.keys row.keys) kinds).0 in
    let (means, patterns) = and_parts (same_flag (has_means row.job) (same_further row.further further.Means))
    (same_flag (has_patterns row.job) (same_further row.further further.Patterns)) agree in
    let has_means_too : same_further row.further further.Means ≡ has_means job =
    flags_same (has_means row.job) _ means ∙ ap has_means same in
    let has_patterns_too : same_further row.further further.Patterns ≡ has_patterns job =
    flags_same (has_patterns row.job) _ patterns ∙ ap has_patterns same in
    let (before_keys, _) = and_parts _ _ others in
    let (before_rounds, rounds) = and_parts _ (is_there_exactly (same_further row.further further.Means) v.rounds) before_keys in
    let (before_clusters, clusters) = and_parts _ (is_there_exactly (same_further row.further further.Means) v.clusters) before_rounds in
    let (_, listed) = and_parts _ (is_there_exactly (same_further row.further further.Patterns) v.patterns) before_clusters in
    record {
      clusters = rw has_means_too at clusters;
      rounds = rw has_means_too at rounds;
      patterns = rw has_patterns_too at listed;
    }

in_pairings : (v : Values) (job : JobKind) (container : ContainerKind) (combiner : CombinerKind) (row : PairingRow)
    → fits_row v job container combiner row ≡ true → is_row row job container row.keys combiner v.reducer ≡ true
in_pairings v job container combiner row fits =
    (and_parts (is_row row job container row.keys combiner v.reducer) (has_further row v) fits).0

default_chunk_good : (job : JobKind) → is_within 1 greatest_chunk (default_chunk job) ≡ true
default_chunk_good job = by_size (is_text_job job)
  where
    by_size : (text : Bool) → is_within 1 greatest_chunk (cond text 65536 64) ≡ true
    by_size true = refl
    by_size false = refl

allowed_with : (v : Values) → AreGood v → (job : JobKind) (container : ContainerKind) (capacity : ℕ) (combiner : CombinerKind)
    → is_capacity (pos capacity) ≡ true
    → IfSome (option_map (job_with v job container capacity combiner) (keys_in rows v job container combiner)) IsAllowed
allowed_with v good job container capacity combiner capacity_good =
    let fits : PairingRow → Bool = fits_row v job container combiner in
    let passing : IfSome (find fits rows) (λ row. (fits row ≡ true) × (agrees row ≡ true)) = found_passes fits agrees rows all_agree in
    let among : IfSome (find fits rows) (λ row. is_pairing job container row.keys combiner v.reducer ≡ true) =
    found_among fits (λ found row. is_row row job container found.keys combiner v.reducer) rows (in_pairings v job container combiner) in
    some_map (job_with v job container capacity combiner) IsAllowed (keys_in rows v job container combiner)
    (some_map (λ row. row.keys) (λ keys. IsAllowed (job_with v job container capacity combiner keys)) (find fits rows)
    (some_more _ (λ row. IsAllowed (job_with v job container capacity combiner row.keys)) (find fits rows)
    (some_both _ _ (find fits rows) passing among)
    (λ row known.
    let more = further_of v job container combiner row known.0.0 known.0.1 in
    record {
      capacity = capacity_good;
      pairing = known.1;
      partitions = default_good (is_within 1 most_partitions) v.partitions default_partitions good.partitions refl;
      chunk = default_good (is_within 1 greatest_chunk) v.chunk (default_chunk job) good.chunk (default_chunk_good job);
      clusters = count_good (has_means job) most_clusters v.clusters more.clusters good.clusters;
      rounds = count_good (has_means job) most_rounds v.rounds more.rounds good.rounds;
      patterns = patterns_good (has_patterns job) v.patterns more.patterns good.patterns;
    })))

by_parts : (v : Values) → AreGood v
    → (job : Option JobKind) (container : Option ContainerKind) (capacity : Option ℕ) (combiner : Option CombinerKind)
    → IfSome capacity (λ n. is_capacity (pos n) ≡ true) → IfSome (job_by v job container capacity combiner) IsAllowed
by_parts v good None container capacity combiner c = tt
by_parts v good (Some job) None capacity combiner c = tt
by_parts v good (Some job) (Some container) None combiner c = tt
by_parts v good (Some job) (Some container) (Some capacity) None c = tt
by_parts v good (Some job) (Some container) (Some capacity) (Some combiner) c = allowed_with v good job container capacity combiner c

pub allowed : (v : Values) (ms : Members) → v ≡ values_of ms → first_bad ms ≡ None → IfSome (described v) IsAllowed
allowed v ms same none =
    let good : AreGood v = rw same (are_good ms none) in
    by_parts v good v.job v.container v.capacity v.combiner good.capacity
