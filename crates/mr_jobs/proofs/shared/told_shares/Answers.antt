use Rattle.std.proofs.Common.{◌≡◌, ◌∙◌, flat_map, subst, sym, true}
use Rattle.std.specs.Ordering.{nat_cmp}
use Rattle.mr_defs.specs.Rows.{cells_of}
use Rattle.mr_phase.specs.declared.common.CommonHand.{CommonHand}
use Rattle.mr_report.specs.Shown.{workers_of}
use Rattle.mr_jobs.specs.Shares.{AreShares}
use Rattle.mr_jobs.proofs.Sharing.{each_seen, lawful, told}
use Rattle.mr_jobs.proofs.shared.told_shares.Goals as goal

pub returns : goal.returns
returns g c = λ inside tasks emits once cells.
    let asked : c.args.workers.now.reports ≡ true = sym c.reports.ensures ∙ c.if-not-reports.false in
    let shares = c.in_ok-shares.shares in
    let hands = c.args.hands.now.items in
    told nat_cmp inside emits c.args.workers.now.count tasks (workers_of shares.items) c.args.workers.now.reports asked
    (lawful (λ (h : CommonHand). h.tasks.items) (λ h. h.cells) nat_cmp inside emits c.args.workers.now.count tasks hands
    (workers_of shares.items) c.in_ok-shares.ensures c.requires.count once
    (subst (AreShares nat_cmp inside emits) (sym c.in_ok-shares.ensures)
    (each_seen (λ (h : CommonHand). (h.tasks.items, h.cells)) (λ w. w.1 ≡ cells_of nat_cmp inside (flat_map emits w.0)) hands
    (λ h. h.cells ≡ cells_of nat_cmp inside (flat_map emits h.tasks.items)) (λ h is. is) cells)))
