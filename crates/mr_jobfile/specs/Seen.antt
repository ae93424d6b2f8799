-- A job as clauses see it.
use Rattle.mr_jobfile.specs.declared.job.Job.{Job}
use Rattle.mr_jobfile.specs.Values.{SeenJob}

-- its fields alone
abbrev pub seen : Job → SeenJob
seen j = record {
  job = j.job;
  container = j.container;
  capacity = j.capacity;
  keys = j.keys;
  combiner = j.combiner;
  reducer = j.reducer;
  queue = j.queue;
  partitions = j.partitions;
  chunk = j.chunk;
  clusters = j.clusters;
  rounds = j.rounds;
  patterns = j.patterns;
}
