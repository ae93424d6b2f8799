use Rattle.std.proofs.Common.{◌∙◌}
use Rattle.mr_combine.proofs.Sorted.{sorted_values}
use Rattle.mr_combine.proofs.buffer.sorted.Goals as goal

pub returns-clause-values : goal.returns-clause-values
returns-clause-values c = sorted_values c.cell.inside.values.items c.sort_unstable.new.self.items c.sort_unstable.ensures.permutation
    c.sort_unstable.ensures.sorted ∙ c.cell.view_is
