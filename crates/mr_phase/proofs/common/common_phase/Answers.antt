use Rattle.std.proofs.Common.{◌≡◌, None, map, nat_lt, subst}
use Rattle.std.specs.Prelude.{All, flat_map}
use Rattle.std.specs.List.{range_with_len}
use Rattle.std.specs.Ordering.{nat_cmp}
use Rattle.mr_base.specs.Noting.{noted_of}
use Rattle.mr_defs.specs.Faulty.{common_faults_of}
use Rattle.mr_defs.specs.Folded.{once_folded}
use Rattle.mr_defs.specs.Keyed.{keys_inside}
use Rattle.mr_defs.specs.Rows.{cells_of, rows_of}
use Rattle.mr_phase.proofs.CommonEnd.{done_cells, done_faults, done_keys, done_rows, done_won, hands_once, passes_of}
use Rattle.mr_phase.proofs.common.common_phase.Goals as goal

pub finish-requires-clause-passes : goal.finish-requires-clause-passes
finish-requires-clause-passes g c =
    passes_of c.in_ok-array.array (g.Q.TaskQueues.count c.args.queues) (g.M.Mapper.task_count c.args.mapper.now)
    (g.M.Mapper.task_emissions c.args.mapper.now) c.in_ok-left.left c.in_ok-left.ensures

pub returns-clause-once : goal.returns-clause-once
returns-clause-once g c =
    hands_once c.in_ok-array.array (g.Q.TaskQueues.count c.args.queues) (g.M.Mapper.task_count c.args.mapper.now)
    (g.M.Mapper.task_emissions c.args.mapper.now) c.in_ok-left.left c.in_ok-left.ensures
    c.in_ok-hands.hands.items c.in_ok-hands.ensures

pub returns-clause-faults : goal.returns-clause-faults
returns-clause-faults g c =
    let m = c.args.mapper.now in
    let e = c.in_ok-rows.ensures in
    subst (λ n. noted_of c.in_ok-left.left.faults
    ≡ common_faults_of nat_cmp (λ k. nat_lt k n)
    (flat_map (g.M.Mapper.task_emissions m) (range_with_len 0 (g.M.Mapper.task_count m)))) c.in_ok-array.ensures.size
    (done_faults c.in_ok-array.array (g.Q.TaskQueues.count c.args.queues) (g.M.Mapper.task_count m)
    (g.M.Mapper.task_emissions m) c.in_ok-left.left c.in_ok-left.ensures
    c.in_ok-hands.hands.items c.in_ok-hands.ensures c.in_ok-rows.rows e.ascending e.rows e.refused)

pub returns-clause-won : goal.returns-clause-won
returns-clause-won g c =
    let m = c.args.mapper.now in
    let e = c.in_ok-rows.ensures in
    done_won c.in_ok-array.array (g.Q.TaskQueues.count c.args.queues) (g.M.Mapper.task_count m)
    (g.M.Mapper.task_emissions m) c.in_ok-left.left c.in_ok-left.ensures
    c.in_ok-hands.hands.items c.in_ok-hands.ensures c.in_ok-rows.rows e.ascending e.rows e.refused

pub returns-clause-keys : goal.returns-clause-keys
returns-clause-keys g c =
    let m = c.args.mapper.now in
    let e = c.in_ok-rows.ensures in
    subst (λ n. map (λ row. row.0) c.in_ok-rows.rows
    ≡ keys_inside nat_cmp (λ k. nat_lt k n)
    (flat_map (g.M.Mapper.task_emissions m) (range_with_len 0 (g.M.Mapper.task_count m)))) c.in_ok-array.ensures.size
    (done_keys c.in_ok-array.array (g.Q.TaskQueues.count c.args.queues) (g.M.Mapper.task_count m)
    (g.M.Mapper.task_emissions m) c.in_ok-left.left c.in_ok-left.ensures
    c.in_ok-hands.hands.items c.in_ok-hands.ensures c.in_ok-rows.rows e.ascending e.rows e.refused)

pub returns-clause-rows : goal.returns-clause-rows
returns-clause-rows g c =
    let m = c.args.mapper.now in
    let e = c.in_ok-rows.ensures in
    subst (λ n. c.in_ok-left.left.faults.twice ≡ None
    → c.in_ok-rows.rows ≡ rows_of nat_cmp (λ k. nat_lt k n) once_folded
    (flat_map (g.M.Mapper.task_emissions m) (range_with_len 0 (g.M.Mapper.task_count m)))) c.in_ok-array.ensures.size
    (done_rows c.in_ok-array.array (g.Q.TaskQueues.count c.args.queues) (g.M.Mapper.task_count m)
    (g.M.Mapper.task_emissions m) c.in_ok-left.left c.in_ok-left.ensures
    c.in_ok-hands.hands.items c.in_ok-hands.ensures c.in_ok-rows.rows e.ascending e.rows e.refused)

pub returns-clause-cells : goal.returns-clause-cells
returns-clause-cells g c =
    let m = c.args.mapper.now in
    let e = c.in_ok-rows.ensures in
    subst (λ n. c.in_ok-left.left.faults.twice ≡ None
    → All (λ h. h.cells ≡ cells_of nat_cmp (λ k. nat_lt k n) (flat_map (g.M.Mapper.task_emissions m) h.tasks.items))
    c.in_ok-hands.hands.items) c.in_ok-array.ensures.size
    (done_cells c.in_ok-array.array (g.Q.TaskQueues.count c.args.queues) (g.M.Mapper.task_count m)
    (g.M.Mapper.task_emissions m) c.in_ok-left.left c.in_ok-left.ensures
    c.in_ok-hands.hands.items c.in_ok-hands.ensures c.in_ok-rows.rows e.ascending e.rows e.refused)
