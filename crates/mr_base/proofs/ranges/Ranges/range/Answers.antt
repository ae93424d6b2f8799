use Rattle.std.proofs.Common.{sym, ap, length, ◌≡◌, ◌<◌, ◌+◌, subst, List, ℕ}
use Rattle.mr_base.specs.Tasks.{start_of, total_of}
use Rattle.mr_base.proofs.Starts.{ranges_total, range_at}
use Rattle.mr_base.proofs.ranges.Ranges.range.Goals as goal

pub returns-clause-even : goal.returns-clause-even
returns-clause-even c =
    let rs = c.self.inside.kept.items in
    let here = range_at c.self.inside.tasks (length rs) c.args.q c.get.result.now rs c.self.invariant.0
    (subst (λ (l : List (ℕ × ℕ)). c.args.q < length l) (sym c.self.view_is) c.requires) c.get.ensures in
    let total = ranges_total _ _ _ c.self.invariant.0 c.self.invariant.2 in
    subst (λ (l : List (ℕ × ℕ)). (c.get.result.now.0 ≡ start_of (total_of l) (length l) c.args.q)
    × (c.get.result.now.1 ≡ start_of (total_of l) (length l) (c.args.q + 1))) c.self.view_is
    (rw total (ap (λ (r : ℕ × ℕ). r.0) here, ap (λ (r : ℕ × ℕ). r.1) here))
