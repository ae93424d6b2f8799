use Rattle.std.proofs.Common.{◌≡◌, take}
use Rattle.mr_base.specs.Noting.{noted_of}
use Rattle.mr_phase.specs.Spread.{noted_all}
use Rattle.mr_phase.proofs.together.merge_faults.Given as goal

abbrev pub invariant-loop-hand : goal.invariant-loop-hand
invariant-loop-hand g l = noted_of l.faults ≡ noted_all g.L.Key.Ord.cmp (λ h. g.L.Local.noted h.local) (take l.hand-index l.hand-items)
