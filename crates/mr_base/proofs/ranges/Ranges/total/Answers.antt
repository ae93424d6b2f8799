use Rattle.std.proofs.Common.{sym, ap, ◌∙◌}
use Rattle.mr_base.specs.Tasks.{total_of}
use Rattle.mr_base.proofs.Starts.{ranges_total}
use Rattle.mr_base.proofs.ranges.Ranges.total.Goals as goal

pub returns-clause-total : goal.returns-clause-total
returns-clause-total c = sym (ranges_total _ _ _ c.self.invariant.0 c.self.invariant.2) ∙ ap total_of c.self.view_is
