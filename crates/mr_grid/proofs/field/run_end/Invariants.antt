use Rattle.std.proofs.Common.{◌≡◌}
use Rattle.mr_grid.specs.Fields.{run_end_in}
use Rattle.mr_grid.proofs.field.run_end.Given as goal

abbrev pub invariant-loop-at : goal.invariant-loop-at
invariant-loop-at l = run_end_in l.of_field l.line l.at ≡ run_end_in l.of_field l.line l.from
