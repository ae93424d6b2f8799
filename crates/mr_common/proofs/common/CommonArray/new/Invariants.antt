use Rattle.std.proofs.Common.{◌≡◌, ◌+◌, ◌≤◌}
use Rattle.mr_common.proofs.Gathering.{Cutting}
use Rattle.mr_common.proofs.common.CommonArray.new.Given as goal

abbrev pub invariant-loop : goal.invariant-loop
invariant-loop l = Cutting l.array.table.shared.table_id l.size l.passes l.counter l.seat l.all.items
    × (l.array.table.shared.key.passes ≡ l.passes) × (l.passes ≤ l.all.spare + l.counter)
