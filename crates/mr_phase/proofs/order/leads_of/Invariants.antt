use Rattle.std.proofs.Common.{◌≡◌, map, take}
use Rattle.mr_phase.proofs.order.leads_of.Given as goal

abbrev pub invariant-loop-entry : goal.invariant-loop-entry
invariant-loop-entry g l = l.leads.items ≡ map (λ e. g.K.Key.lead_of e.0.now) (take l.entry-index l.entries)
