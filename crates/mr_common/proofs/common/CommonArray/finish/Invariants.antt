use Rattle.std.proofs.Common.{◌≡◌, ◌≤◌, [], vec_len, vec_capacity, length}
use Rattle.mr_common.proofs.Gathering.{Gathers}
use Rattle.mr_common.proofs.common.CommonArray.finish.Given as goal

abbrev pub invariant-loop-next : goal.invariant-loop-next
invariant-loop-next l =
    Gathers l.self.table.shared.table_id l.self.size l.self.table.shared.key.passes l.seat l.passes.items l.fn.passes.items
    × (l.rows.items ≡ []) × (vec_len l.rows ≡ 0) × (l.self.size ≤ vec_capacity l.rows)

abbrev pub decreases-loop-next : goal.decreases-loop-next
decreases-loop-next l = length l.passes.items
