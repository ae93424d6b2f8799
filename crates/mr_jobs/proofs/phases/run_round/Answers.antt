use Rattle.std.proofs.Common.{◌∙◌, flat_map, sym}
use Rattle.std.specs.List.{range_with_len}
use Rattle.mr_base.specs.Noting.{noted_of}
use Rattle.mr_jobs.proofs.Merging.{round_passed, round_refused}
use Rattle.mr_jobs.proofs.phases.run_round.Goals as goal

pub returns-in-Some : goal.returns-in-Some
returns-in-Some g c =
    let emits = g.M.Mapper.task_emissions c.args.mapper.now in
    let all = range_with_len 0 (g.M.Mapper.task_count c.args.mapper.now) in
    let reduced = c.in_ok-lists.field-0 in
    record {
      merge = tt;
      rows = round_refused c.keys_are_ordered.ensures.total c.keys_are_ordered.ensures.one g.L.Parted.inside g.R.Reducer.folded
          (flat_map emits all) reduced.lists.items (noted_of reduced.faults)
          (c.in_ok-lists.ensures.tasks emits all c.in_ok-mapped.ensures.stands c.in_ok-mapped.ensures.once)
          c.in-Some.fault (sym c.in-Some.is ∙ c.first.ensures);
      shares = tt;
    }

pub returns-in-None : goal.returns-in-None
returns-in-None g c =
    let emits = g.M.Mapper.task_emissions c.args.mapper.now in
    let all = range_with_len 0 (g.M.Mapper.task_count c.args.mapper.now) in
    let reduced = c.in_ok-lists.field-0 in
    record {
      merge = record { ascend = c.in_ok-lists.ensures.ascend; differ = c.in_ok-lists.ensures.differ };
      rows = λ rows merged.
          round_passed c.keys_are_ordered.ensures.total c.keys_are_ordered.ensures.one g.L.Parted.inside g.R.Reducer.folded
          (flat_map emits all) reduced.lists.items (noted_of reduced.faults)
          (c.in_ok-lists.ensures.tasks emits all c.in_ok-mapped.ensures.stands c.in_ok-mapped.ensures.once)
          rows (sym c.in-None.is ∙ c.first.ensures) merged.all merged.ascend;
      shares = c.in_ok-shares.ensures (g.M.Mapper.task_count c.args.mapper.now) emits c.in_ok-mapped.ensures.once
          c.in_ok-mapped.ensures.stands;
    }
