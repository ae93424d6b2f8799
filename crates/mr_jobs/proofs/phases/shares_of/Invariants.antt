use Rattle.std.proofs.Common.{◌≡◌, map, take}
use Rattle.mr_report.specs.Shown.{work_of}
use Rattle.mr_jobs.proofs.phases.shares_of.Given as goal

abbrev pub invariant-loop-worker : goal.invariant-loop-worker
invariant-loop-worker g l = map work_of l.shares.items ≡ map (λ h. (h.tasks.items, g.L.Local.cell_count h.local)) (take l.worker l.mapped)
