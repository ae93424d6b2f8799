-- How many workers a report tells of.
use Rattle.std.specs.Prelude.{ℕ, Option, Some, None, if◌then◌else◌}
use Rattle.mr_jobs.specs.declared.workers.Workers.{Workers}

-- all, where it is asked for
abbrev pub reported : {T G : Type 0} → Workers T G → Option ℕ
reported workers = if workers.reports then Some workers.count else None
