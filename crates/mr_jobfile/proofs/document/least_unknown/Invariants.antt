use Rattle.std.proofs.Common.{◌≡◌}
use Rattle.toml.specs.View.{table_view}
use Rattle.mr_jobfile.specs.Keys.{least_unknown}
use Rattle.mr_jobfile.proofs.Unknown.{unknown_in}
use Rattle.mr_jobfile.proofs.document.least_unknown.Given as goal

abbrev pub invariant-loop-name : goal.invariant-loop-name
invariant-loop-name l = (goal.iterator-loop-name).can_next l.name-iterator × (goal.iterator-loop-name).is_finite l.name-iterator
    × (least_unknown (table_view l.table) ≡ unknown_in l.name-iterator)
