use Rattle.std.proofs.Common.{◌≡◌, map, take}
use Rattle.mr_report.specs.Shown.{work_of}
use Rattle.mr_jobs.proofs.shared.shares_of.Given as goal

abbrev pub invariant-loop-hand : goal.invariant-loop-hand
invariant-loop-hand l = map work_of l.shares.items ≡ map (λ h. (h.tasks.items, h.cells)) (take l.hand-index l.hand-items)
