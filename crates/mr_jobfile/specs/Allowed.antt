-- What a job keeps: its kinds go together, and its numbers are in their ranges.
use Rattle.std.specs.Prelude.{IsTrue, pos}
use Rattle.mr_capacity.specs.Tables.{is_capacity, is_pairing}
use Rattle.mr_jobfile.specs.Ranges.{most_partitions, greatest_chunk, most_clusters, most_rounds, is_within, is_count_of, are_patterns_of}
use Rattle.mr_jobfile.specs.Ranges.{has_means, has_patterns}
use Rattle.mr_jobfile.specs.Values.{SeenJob}

-- capacity and pairing are in their tables, and every number and list is in its range
pub record IsAllowed (j : SeenJob) : Type 0 where
  pub capacity : IsTrue (is_capacity (pos j.capacity))
  pub pairing : IsTrue (is_pairing j.job j.container j.keys j.combiner j.reducer)
  pub partitions : IsTrue (is_within 1 most_partitions j.partitions)
  pub chunk : IsTrue (is_within 1 greatest_chunk j.chunk)
  pub clusters : IsTrue (is_count_of (has_means j.job) most_clusters j.clusters)
  pub rounds : IsTrue (is_count_of (has_means j.job) most_rounds j.rounds)
  pub patterns : IsTrue (are_patterns_of (has_patterns j.job) j.patterns)
