use Rattle.std.proofs.Common.{◌≡◌, ◌+◌, ◌-◌, ◌≤◌, ◌==◌, []}
use Rattle.crossbeam_deque.specs.Handles.{worker_flavor, worker_view, worker_index, worker_capacity}
use Rattle.mr_deques.specs.Lawful.{view, about}
use Rattle.mr_deques.proofs.deque.filled.Given as goal

abbrev pub invariant-loop-number : goal.invariant-loop-number
invariant-loop-number g l = (worker_flavor l.owner ≡ 0)
    × (worker_view l.owner ≡ view (about l.start l.end l.passes) l.number l.passes [] (l.number == l.end + l.passes))
    × (l.start + 1 ≤ l.number) × (l.number ≤ l.end + l.passes) × (worker_index l.owner + l.start ≡ l.number)
    × ((l.end - l.start) + l.passes ≤ worker_capacity l.owner)
