use Rattle.std.proofs.Common.{sym, ◌<◌, ◌≤◌, length, subst, List, ℕ}
use Rattle.mr_defs.specs.Tasks.{most_tasks}
use Rattle.mr_base.specs.Tasks.{total_of}
use Rattle.mr_base.proofs.Starts.{ranges_total}
use Rattle.mr_base.proofs.ranges.Ranges.copy.Goals as goal

pub returns-clause-bounds : goal.returns-clause-bounds
returns-clause-bounds c =
    let held = c.self.invariant in
    subst (λ (l : List (ℕ × ℕ)). (total_of l ≤ most_tasks) × (0 < length l) × (length l ≤ 32)) c.self.view_is
    (subst (λ n. n ≤ most_tasks) (sym (ranges_total _ _ _ held.0 held.2)) held.1, held.2, held.3)
