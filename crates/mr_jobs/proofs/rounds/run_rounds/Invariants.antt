use Rattle.std.proofs.Common.{false, length}
use Rattle.std.specs.List.{range_with_len}
use Rattle.std.specs.Ordering.{nat_cmp}
use Rattle.mr_defs.specs.Tasks.{spans_of}
use Rattle.mr_jobs.proofs.Repeated.{HaveRun}
use Rattle.mr_jobs.specs.Meaning.{inside_of}
use Rattle.mr_jobs.specs.Reported.{reported}
use Rattle.mr_jobs.specs.Shares.{all_of, task_at}
use Rattle.mr_report.specs.Shown.{rounds_seen}
use Rattle.mr_jobs.proofs.rounds.run_rounds.Given as goal

abbrev pub invariant-loop : goal.invariant-loop
invariant-loop g l =
    g.R.Rounds.fits l.rounds l.state
    × HaveRun nat_cmp (inside_of l.job.container l.job.capacity) false g.R.Rounds.folded
    (λ s. all_of (g.R.Rounds.emits l.rounds s) (g.R.Rounds.count l.rounds)) (g.R.Rounds.next l.rounds) (reported l.workers)
    (length (spans_of l.job.chunk (g.R.Rounds.count l.rounds)))
    (λ s. task_at (g.R.Rounds.emits l.rounds s) (range_with_len 0 (g.R.Rounds.count l.rounds))
    (spans_of l.job.chunk (g.R.Rounds.count l.rounds)))
    l.most l.fn.first l.counter l.state (rounds_seen l.report.items)
