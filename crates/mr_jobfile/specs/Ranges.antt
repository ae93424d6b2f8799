-- The ranges of a job's numbers and patterns.
use Rattle.std.specs.Prelude.{ℕ, Bool, true, false, not, ◌&&◌, ◌==◌, nat_le, List, length}
use Rattle.std.specs.List.{list_any, list_all}
use Rattle.mr_capacity.specs.declared.jobs.JobKind.{JobKind}
use Rattle.mr_capacity.specs.declared.jobs.Further.TheVariants as further
use Rattle.mr_capacity.specs.Tables.{goes_with}

-- the most bytes of a job file
abbrev pub job_limit : ℕ
job_limit = 65536

-- the most partitions, the greatest chunk, the most clusters and rounds; the most patterns and the longest of them
abbrev pub most_partitions : ℕ
most_partitions = 64

abbrev pub greatest_chunk : ℕ
greatest_chunk = 16777216

abbrev pub most_clusters : ℕ
most_clusters = 64

abbrev pub most_rounds : ℕ
most_rounds = 1000

abbrev pub most_patterns : ℕ
most_patterns = 16

abbrev pub longest_pattern : ℕ
longest_pattern = 64

-- from low up to and with high
abbrev pub is_within : ℕ → ℕ → ℕ → Bool
is_within low high n = nat_le low n && nat_le n high

-- from 1 to the greatest where the job has it, and else 0
abbrev pub is_count_of : Bool → ℕ → ℕ → Bool
is_count_of true high n = is_within 1 high n
is_count_of false high n = n == 0

-- 1 to 64 bytes, and none of them a byte 10
abbrev pub is_pattern : List ℕ → Bool
is_pattern bytes = is_within 1 longest_pattern (length bytes) && not (list_any (λ b. b == 10) bytes)

-- 1 to 16 of them
abbrev pub are_patterns : List (List ℕ) → Bool
are_patterns patterns = is_within 1 most_patterns (length patterns) && list_all is_pattern patterns

-- such patterns where the job has them, and else none
abbrev pub are_patterns_of : Bool → List (List ℕ) → Bool
are_patterns_of true patterns = are_patterns patterns
are_patterns_of false patterns = length patterns == 0

-- jobs that have clusters and rounds
abbrev pub has_means : JobKind → Bool
has_means job = goes_with further.Means job

-- jobs that have patterns
abbrev pub has_patterns : JobKind → Bool
has_patterns job = goes_with further.Patterns job
