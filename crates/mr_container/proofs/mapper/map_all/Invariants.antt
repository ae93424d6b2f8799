use Rattle.std.proofs.Common.{◌++◌}
use Rattle.std.specs.List.{flat_map, range_with_len}
use Rattle.mr_container.proofs.mapper.map_all.Given as goal

abbrev pub invariant-loop-task : goal.invariant-loop-task
invariant-loop-task g l = record {
  stands : (es : _) → g.L.Local.stands l.initial.out es
      → g.L.Local.stands l.out (es ++ flat_map (g.M.Mapper.task_emissions l.mapper) (range_with_len 0 l.task));
  origin : g.L.Local.same_origin l.initial.out l.out;
}
