use Rattle.std.proofs.Common.{◌≡◌, ◌≤◌, map, vec_len, vec_capacity}
use Rattle.std.specs.Slots.{slots_items}
use Rattle.mr_common.specs.Passes.{pairs_to, row_of}
use Rattle.mr_common.proofs.array.read_rows.Given as goal

abbrev pub invariant-loop-k : goal.invariant-loop-k
invariant-loop-k l =
    (l.rows.items ≡ map row_of (pairs_to (slots_items l.closed.words) l.k)) × (vec_len l.rows ≤ l.k) × (l.count ≤ vec_capacity l.rows)
