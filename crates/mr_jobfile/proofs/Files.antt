-- Job files that are written out: what each means is computed.
use Rattle.std.proofs.Common.{ℕ, List, [], ◌∷◌, ◌++◌, codes, ◌≡◌, refl, None, Ok, Err}
use Rattle.std.specs.Str.{chars, is_utf8}
use Rattle.std.specs.Char.{encode_utf8}
use Rattle.toml.proofs.OnLiterals.{toml_on_literals}
use Rattle.mr_capacity.specs.declared.jobs.JobKind.TheVariants as job
use Rattle.mr_capacity.specs.declared.kinds.ContainerKind.TheVariants as container
use Rattle.mr_capacity.specs.declared.kinds.KeyKind.TheVariants as keys
use Rattle.mr_capacity.specs.declared.kinds.CombinerKind.TheVariants as combiner
use Rattle.mr_capacity.specs.declared.kinds.QueueKind.TheVariants as queue
use Rattle.mr_jobfile.specs.declared.key.JobKey.TheVariants as key
use Rattle.mr_jobfile.specs.declared.fault.JobFault.TheVariants as fault
use Rattle.mr_jobfile.specs.Values.{SeenJob}
use Rattle.mr_jobfile.specs.JobOf.{document_of, job_of}

abbrev head : List ℕ
head = codes "version = 1\njob = \"word_count\"\ncontainer = \"hash\"\n"

abbrev words : List ℕ
words = head ++ codes "capacity = 1024\ncombiner = \"sum\"\n"

abbrev word_job : SeenJob
word_job = record {
  job = job.WordCount;
  container = container.Hash;
  capacity = 1024;
  keys = keys.Bytes;
  combiner = combiner.Sum;
  reducer = None;
  queue = queue.Deques;
  partitions = 16;
  chunk = 65536;
  clusters = 0;
  rounds = 0;
  patterns = [];
}

words_given : job_of words ≡ Ok word_job
unfolding toml_on_literals chars encode_utf8 is_utf8 job_of document_of
words_given = refl

all_given : job_of (words ++ codes "queue = \"blocks\"\npartitions = 64\nchunk = 1\n")
    ≡ Ok (record word_job { queue = queue.Blocks; partitions = 64; chunk = 1 })
unfolding toml_on_literals chars encode_utf8 is_utf8 job_of document_of
all_given = refl

byte_ff : job_of (255 ∷ []) ≡ Err fault.NotToml
unfolding toml_on_literals chars encode_utf8 is_utf8 job_of document_of
byte_ff = refl

no_value : job_of (codes "version =\n") ≡ Err fault.NotToml
unfolding toml_on_literals chars encode_utf8 is_utf8 job_of document_of
no_value = refl

unknown : job_of (codes "version = 1\ncolor = 2\n") ≡ Err (fault.Unknown (codes "color"))
unfolding toml_on_literals chars encode_utf8 is_utf8 job_of document_of
unknown = refl

least_unknown : job_of (codes "zone = 1\ncolor = 2\nversion = 1\n") ≡ Err (fault.Unknown (codes "color"))
unfolding toml_on_literals chars encode_utf8 is_utf8 job_of document_of
least_unknown = refl

no_job : job_of (codes "version = 1\n") ≡ Err (fault.Missing key.Job)
unfolding toml_on_literals chars encode_utf8 is_utf8 job_of document_of
no_job = refl

no_container : job_of (codes "version = 1\njob = 1\n") ≡ Err (fault.Missing key.Container)
unfolding toml_on_literals chars encode_utf8 is_utf8 job_of document_of
no_container = refl

version_text : job_of (codes "version = \"1\"\njob = \"word_count\"\ncontainer = \"hash\"\ncapacity = 1024\ncombiner = \"sum\"\n")
    ≡ Err (fault.BadValue key.Version)
unfolding toml_on_literals chars encode_utf8 is_utf8 job_of document_of
version_text = refl

capacity_17 : job_of (head ++ codes "capacity = 17\ncombiner = \"sum\"\n") ≡ Err (fault.BadValue key.Capacity)
unfolding toml_on_literals chars encode_utf8 is_utf8 job_of document_of
capacity_17 = refl

partitions_65 : job_of (words ++ codes "partitions = 65\n") ≡ Err (fault.BadValue key.Partitions)
unfolding toml_on_literals chars encode_utf8 is_utf8 job_of document_of
partitions_65 = refl

chunk_0 : job_of (words ++ codes "chunk = 0\n") ≡ Err (fault.BadValue key.Chunk)
unfolding toml_on_literals chars encode_utf8 is_utf8 job_of document_of
chunk_0 = refl

-- the array common to all workers doesn't go with words
container_common : job_of (codes "version = 1\njob = \"word_count\"\ncontainer = \"common\"\ncapacity = 1024\ncombiner = \"sum\"\n")
    ≡ Err fault.Pairing
unfolding toml_on_literals chars encode_utf8 is_utf8 job_of document_of
container_common = refl

combiner_min : job_of (head ++ codes "capacity = 1024\ncombiner = \"min\"\n") ≡ Err fault.Pairing
unfolding toml_on_literals chars encode_utf8 is_utf8 job_of document_of
combiner_min = refl

reducer_beside_sum : job_of (words ++ codes "reducer = \"list\"\n") ≡ Err fault.Pairing
unfolding toml_on_literals chars encode_utf8 is_utf8 job_of document_of
reducer_beside_sum = refl

keys_unnamed : job_of (words ++ codes "keys = \"bytes\"\n") ≡ Err fault.Pairing
unfolding toml_on_literals chars encode_utf8 is_utf8 job_of document_of
keys_unnamed = refl

patterns_unnamed : job_of (words ++ codes "patterns = [\"ab\"]\n") ≡ Err fault.Pairing
unfolding toml_on_literals chars encode_utf8 is_utf8 job_of document_of
patterns_unnamed = refl

pattern_empty : job_of (words ++ codes "patterns = [\"ab\", \"\"]\n") ≡ Err (fault.BadValue key.Patterns)
unfolding toml_on_literals chars encode_utf8 is_utf8 job_of document_of
pattern_empty = refl
